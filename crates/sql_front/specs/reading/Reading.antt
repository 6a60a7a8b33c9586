-- Reading from the front: the value and the tokens after it, by each way of making a language.
use Rattle.std.specs.Prelude.{ℕ, zero, suc, Bool, false, cond, List, [], ◌∷◌, length, Option, Some}
use Rattle.std.specs.Prelude.{None, codes}
use Rattle.period_core.specs.TextReading.{◌>>=◌}
use Rattle.sql_statements.specs.Lexemes.{Lexeme}
use Rattle.sql_front.specs.Language.{symbol}

-- reading from the front of tokens, if a value can be read there
abbrev pub Reader : Type 0 → Type 0
Reader A = List Lexeme → Option (A × List Lexeme)

-- one token that meets the test, by its text
abbrev pub one_read : (Lexeme → Bool) → Reader (List ℕ)
one_read test [] = None
one_read test (t ∷ rest) = cond (test t) (Some (t.text, rest)) None

-- one token that meets the test, and means nothing
abbrev pub fixed_read : (Lexeme → Bool) → Reader (Unit {0})
fixed_read test [] = None
fixed_read test (t ∷ rest) = cond (test t) (Some (tt, rest)) None

-- the one, then the other
abbrev pub sequence_read : {A B : Type 0} → Reader A → Reader B → Reader (A × B)
sequence_read p q ts = do
  x ← p ts
  y ← q x.1
  Some ((x.0, y.0), y.1)

-- a reader of a value, from which another is built
abbrev pub built_read : {A B : Type 0} → (A → B) → Reader A → Reader B
built_read f p ts = do
  x ← p ts
  Some (f x.0, x.1)

-- the next token decides
abbrev pub begins : (Lexeme → Bool) → List Lexeme → Bool
begins test [] = false
begins test (t ∷ rest) = test t

-- the third token decides
abbrev pub third_is : (Lexeme → Bool) → List Lexeme → Bool
third_is test [] = false
third_is test (a ∷ []) = false
third_is test (a ∷ b ∷ rest) = begins test rest

-- the one or the other, as the next tokens decide
abbrev pub choice_read : {A : Type 0} → (List Lexeme → Bool) → Reader A → Reader A → Reader A
choice_read d p q ts = cond (d ts) (p ts) (q ts)

-- a value if the next token meets the test, else none
abbrev pub optional_read : {A : Type 0} → (Lexeme → Bool) → Reader A → Reader (Option A)
optional_read {A} test p ts =
    cond (begins test ts) (p ts >>= λ x. Some (Some x.0, x.1)) (Some (None, ts))

-- up to n values, as long as the next tokens decide for one more
unfoldable pub bounded_read : {A : Type 0} → (List Lexeme → Bool) → Reader A → ℕ → Reader (List A)
bounded_read d p zero ts = Some ([], ts)
bounded_read d p (suc n) ts =
    cond (d ts) (p ts >>= λ x. bounded_read d p n x.1 >>= λ y. Some (x.0 ∷ y.0, y.1))
    (Some ([], ts))

-- as many values as there are, as long as the next tokens decide for one more
abbrev pub repetition_read : {A : Type 0} → (List Lexeme → Bool) → Reader A → Reader (List A)
repetition_read d p ts = bounded_read d p (length ts) ts

-- a token that meets the test, then the value
abbrev pub preceded_read : {A : Type 0} → (Lexeme → Bool) → Reader A → Reader A
preceded_read {A} test p =
    built_read (λ (v : Unit {0} × A). v.1) (sequence_read (fixed_read test) p)

-- the tokens after one that meets the test, or all of them
abbrev pub after_optional : (Lexeme → Bool) → List Lexeme → List Lexeme
after_optional test [] = []
after_optional test (t ∷ rest) = cond (test t) rest (t ∷ rest)

-- a reader of a value after a token, or of the value alone
abbrev pub preceded_or_not_read : {A : Type 0} → (Lexeme → Bool) → Reader A → Reader A
preceded_or_not_read test p ts = p (after_optional test ts)

-- a token that meets the test, and means this value
abbrev pub denotes_read : {A : Type 0} → A → (Lexeme → Bool) → Reader A
denotes_read a test = built_read (λ (nothing : Unit {0}). a) (fixed_read test)

-- one or more values, with a separator between each two
abbrev pub separated_read : {A : Type 0} → (Lexeme → Bool) → Reader A → Reader (List A)
separated_read {A} sep p =
    built_read (λ (v : A × List A). v.0 ∷ v.1)
    (sequence_read p (repetition_read (begins sep) (preceded_read sep p)))

-- a value in parentheses
abbrev pub enclosed_read : {A : Type 0} → Reader A → Reader A
enclosed_read {A} p =
    preceded_read (symbol (codes "("))
    (built_read (λ (v : A × Unit {0}). v.0) (sequence_read p (fixed_read (symbol (codes ")")))))

-- the value of a reader that reads all of the tokens
abbrev pub nothing_after : {A : Type 0} → A × List Lexeme → Option A
nothing_after x = elim x.1 [ [] ↦ Some x.0 | t ∷ more ↦ None ]

-- a value that takes all of the tokens
abbrev pub whole_read : {A : Type 0} → Reader A → List Lexeme → Option A
whole_read p ts = p ts >>= nothing_after
