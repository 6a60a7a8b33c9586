-- The ways in which a language is made of simpler ones.
use Rattle.std.specs.Prelude.{◌≡◌, ℕ, Bool, true, false, List, [], ◌∷◌, ◌++◌, ◌⊎◌, ◌&&◌, ◌||◌}
use Rattle.std.specs.Prelude.{codes, Option, Some, None}
use Rattle.std.specs.Str.{bytes_eq}
use Rattle.sql_statements.specs.Lexemes.{Lexeme}
use Rattle.sql_statements.specs.Words.{folded}
use Rattle.sql_statements.specs.declared.token.TokenKind.{TokenKind}
use Rattle.sql_statements.specs.declared.token.TokenKind.TheVariants.{Word, Number, Text, Symbol}

-- a word
abbrev pub is_word : TokenKind → Bool
is_word Word = true
is_word Number = false
is_word Text = false
is_word Symbol = false

-- a number
abbrev pub is_number : TokenKind → Bool
is_number Word = false
is_number Number = true
is_number Text = false
is_number Symbol = false

-- a text
abbrev pub is_text : TokenKind → Bool
is_text Word = false
is_text Number = false
is_text Text = true
is_text Symbol = false

-- a symbol
abbrev pub is_symbol : TokenKind → Bool
is_symbol Word = false
is_symbol Number = false
is_symbol Text = false
is_symbol Symbol = true

-- a keyword, in any case
abbrev pub keyword : List ℕ → Lexeme → Bool
keyword word lexeme = is_word lexeme.kind && bytes_eq (folded lexeme.text) (folded word)

-- a symbol
abbrev pub symbol : List ℕ → Lexeme → Bool
symbol sign lexeme = is_symbol lexeme.kind && bytes_eq lexeme.text sign

-- any number
abbrev pub number : Lexeme → Bool
number lexeme = is_number lexeme.kind

-- any text
abbrev pub text : Lexeme → Bool
text lexeme = is_text lexeme.kind

-- a token meets one test or the other
abbrev pub or_test : (Lexeme → Bool) → (Lexeme → Bool) → Lexeme → Bool
or_test a b lexeme = a lexeme || b lexeme

-- a language: which lists of tokens spell which value
abbrev pub Language : Type 0 → Type 1
Language A = List Lexeme → A → Type 0

-- one token that meets a test, by its text
abbrev pub OneToken : (Lexeme → Bool) → Language (List ℕ)
OneToken test lexemes written =
    (one : Lexeme) × (test one ≡ true) × (lexemes ≡ one ∷ []) × (written ≡ one.text)

-- one token that meets a test, and means nothing
abbrev pub Fixed : (Lexeme → Bool) → Language (Unit {0})
Fixed test lexemes nothing = (one : Lexeme) × (test one ≡ true) × (lexemes ≡ one ∷ [])

-- one language, then the other: the tokens are split at some place
abbrev pub Sequence : {A B : Type 0} → Language A → Language B → Language (A × B)
Sequence L M lexemes pair =
    (x : List Lexeme) × (y : List Lexeme) × (lexemes ≡ x ++ y) × L x pair.0 × M y pair.1

-- a language whose values are built of another's
abbrev pub Built : {A B : Type 0} → (A → B) → Language A → Language B
Built {A} build L lexemes b = (a : A) × (b ≡ build a) × L lexemes a

-- a language whose values are in this relation to another's
abbrev pub Related : {A B : Type 0} → (A → B → Type 0) → Language A → Language B
Related {A} R L lexemes b = (a : A) × R a b × L lexemes a

-- a token that means this value
abbrev pub Denotes : {A : Type 0} → A → (Lexeme → Bool) → Language A
Denotes a test = Built (λ (nothing : Unit {0}). a) (Fixed test)

-- one language or the other
abbrev pub Choice : {A : Type 0} → Language A → Language A → Language A
Choice L M lexemes a = L lexemes a ⊎ M lexemes a

-- any number of times
abbrev pub Repetition : {A : Type 0} → Language A → Language (List A)
Repetition L lexemes [] = lexemes ≡ []
Repetition L lexemes (a ∷ more) =
    (x : List Lexeme) × (y : List Lexeme) × (lexemes ≡ x ++ y) × L x a × Repetition L y more

-- a language once or not at all
abbrev pub Optional : {A : Type 0} → Language A → Language (Option A)
Optional L lexemes None = lexemes ≡ []
Optional L lexemes (Some a) = L lexemes a

-- a token that means nothing, then the language
abbrev pub Preceded : {A : Type 0} → (Lexeme → Bool) → Language A → Language A
Preceded {A} test L = Built (λ (pair : Unit {0} × A). pair.1) (Sequence (Fixed test) L)

-- a token that means nothing, or none, then the language
abbrev pub PrecededOrNot : {A : Type 0} → (Lexeme → Bool) → Language A → Language A
PrecededOrNot test L = Choice (Preceded test L) L

-- a language one or more times, with a separator between each two
abbrev pub Separated : {A : Type 0} → (Lexeme → Bool) → Language A → Language (List A)
Separated {A} separator L =
    Built (λ (pair : A × List A). pair.0 ∷ pair.1)
    (Sequence L (Repetition (Preceded separator L)))

-- a language in parentheses
abbrev pub Enclosed : {A : Type 0} → Language A → Language A
Enclosed {A} L =
    Preceded (symbol (codes "("))
    (Built (λ (pair : A × Unit {0}). pair.0) (Sequence L (Fixed (symbol (codes ")")))))
