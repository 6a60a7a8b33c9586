-- The first token of a language, by which the parser chooses among languages.
use Rattle.std.proofs.Common.{◌≡◌, ℕ, Bool, true, false, List, [], ◌∷◌, ◌++◌, refl, sym, ap, ◌∙◌, inl, inr, ◌||◌, append_assoc}
use Rattle.std.specs.Str.{bytes_eq}
use Rattle.sql_statements.specs.Words.{folded}
use Rattle.std.proofs.lemmas.Bool.{and_parts, and_right, or_cases, cases_Bool}
use Rattle.std.proofs.lemmas.Slice.Eq.{bytes_eq-Decides}
use Rattle.sql_statements.specs.declared.token.TokenKind.{TokenKind}
use Rattle.sql_statements.specs.declared.token.TokenKind.TheVariants.{Word, Number, Text, Symbol}
use Rattle.sql_statements.specs.Lexemes.{Lexeme}
use Rattle.sql_front.specs.Language.{keyword, symbol, number, text, or_test, is_word, is_number, is_text, is_symbol, OneToken, Fixed, Sequence, Built, Choice, Preceded, PrecededOrNot, Denotes}
use Rattle.sql_front.specs.reading.Reading.{begins}

-- no token passes both tests
pub record Apart (a b : Lexeme → Bool) : Type 0 where
  pub apart : (t : Lexeme) → a t ≡ true → b t ≡ false

pub record OfKind (a : Lexeme → Bool) (k : TokenKind) : Type 0 where
  pub is : (t : Lexeme) → a t ≡ true → t.kind ≡ k

pub is_word-kind : (k : TokenKind) → is_word k ≡ true → k ≡ Word
is_word-kind Word e = refl
is_word-kind Number e = absurd cc
is_word-kind Text e = absurd cc
is_word-kind Symbol e = absurd cc

is_number-kind : (k : TokenKind) → is_number k ≡ true → k ≡ Number
is_number-kind Word e = absurd cc
is_number-kind Number e = refl
is_number-kind Text e = absurd cc
is_number-kind Symbol e = absurd cc

is_text-kind : (k : TokenKind) → is_text k ≡ true → k ≡ Text
is_text-kind Word e = absurd cc
is_text-kind Number e = absurd cc
is_text-kind Text e = refl
is_text-kind Symbol e = absurd cc

is_symbol-kind : (k : TokenKind) → is_symbol k ≡ true → k ≡ Symbol
is_symbol-kind Word e = absurd cc
is_symbol-kind Number e = absurd cc
is_symbol-kind Text e = absurd cc
is_symbol-kind Symbol e = refl

pub keyword_kind : (w : List ℕ) → OfKind (keyword w) Word
keyword_kind w = record { is = λ t e. is_word-kind t.kind (and_parts (is_word t.kind) (bytes_eq (folded t.text) (folded w)) e).0 }

pub symbol_kind : (w : List ℕ) → OfKind (symbol w) Symbol
symbol_kind w = record { is = λ t e. is_symbol-kind t.kind (and_parts (is_symbol t.kind) (bytes_eq t.text w) e).0 }

pub number_kind : OfKind number Number
number_kind = record { is = λ t e. is_number-kind t.kind e }

pub text_kind : OfKind text Text
text_kind = record { is = λ t e. is_text-kind t.kind e }

pub apart_kinds : {a b : Lexeme → Bool} {k l : TokenKind} → OfKind a k → OfKind b l → (k ≡ l → ⊥) → Apart a b
apart_kinds {a} {b} f g differ = record {
  apart = λ t e. elim (cases_Bool (b t)) [
    | inl h ↦ absurd (differ (sym (f.is t e) ∙ g.is t h))
    | inr h ↦ h
  ];
}

-- a text is not equal to two that differ
differing : (text v w : List ℕ) → bytes_eq v w ≡ false → bytes_eq text v ≡ true → bytes_eq text w ≡ false
differing text v w differ e =
    let same : text ≡ v = (bytes_eq-Decides text v).0 e in
    rw same differ

pub symbols_apart : (v w : List ℕ) → bytes_eq v w ≡ false → Apart (symbol v) (symbol w)
symbols_apart v w differ = record { apart = λ t e. and_right (is_symbol t.kind) (bytes_eq t.text w) (differing t.text v w differ (and_parts (is_symbol t.kind) (bytes_eq t.text v) e).1) }

pub keywords_apart : (v w : List ℕ) → bytes_eq (folded v) (folded w) ≡ false → Apart (keyword v) (keyword w)
keywords_apart v w differ = record { apart = λ t e. and_right (is_word t.kind) (bytes_eq (folded t.text) (folded w)) (differing (folded t.text) (folded v) (folded w) differ (and_parts (is_word t.kind) (bytes_eq (folded t.text) (folded v)) e).1) }

pub or_apart : {a b c : Lexeme → Bool} → Apart a c → Apart b c → Apart (or_test a b) c
or_apart {a} {b} r s = record { apart = λ t e. elim (or_cases (a t) (b t) e) [ inl h ↦ r.apart t h | inr h ↦ s.apart t h ] }

or_left : (x y : Bool) → x ≡ true → (x || y) ≡ true
or_left true y e = refl
or_left false y e = absurd cc

or_right : (x y : Bool) → y ≡ true → (x || y) ≡ true
or_right true y e = refl
or_right false y e = e

begins_if : (a b : Lexeme → Bool) → ((t : Lexeme) → a t ≡ true → b t ≡ true) → (z : List Lexeme) → begins a z ≡ true → begins b z ≡ true
begins_if a b h [] e = absurd cc
begins_if a b h (t ∷ z) e = h t e

-- each text of the language begins with a token that passes the test
pub record Starts {A : Type 0} (test : Lexeme → Bool) (L : List Lexeme → A → Type 0) : Type 0 where
  pub at : (x : List Lexeme) (a : A) (z : List Lexeme) → L x a → begins test (x ++ z) ≡ true

pub starts_one : (test : Lexeme → Bool) → Starts test (OneToken test)
starts_one test = record { at = λ x a z h. rw h.2 h.1 }

pub starts_fixed : (test : Lexeme → Bool) → Starts test (Fixed test)
starts_fixed test = record { at = λ x a z h. rw (h.2, h.1) refl }

pub starts_built : {A B : Type 0} {test : Lexeme → Bool} (f : A → B) {L : List Lexeme → A → Type 0} → Starts test L → Starts test (Built f L)
starts_built f s = record { at = λ x b z h. s.at x h.0 z h.2 }

pub starts_sequence : {A B : Type 0} {test : Lexeme → Bool} {L : List Lexeme → A → Type 0} (M : List Lexeme → B → Type 0) → Starts test L → Starts test (Sequence L M)
starts_sequence {test} M s = record { at = λ x v z h. ap (begins test) (ap (λ (w : List Lexeme). w ++ z) h.2 ∙ append_assoc h.0 h.1 z) ∙ s.at h.0 v.0 (h.1 ++ z) h.3 }

pub starts_preceded : {A : Type 0} (test : Lexeme → Bool) (L : List Lexeme → A → Type 0) → Starts test (Preceded test L)
starts_preceded {A} test L = starts_built (λ (v : Unit {0} × A). v.1) (starts_sequence L (starts_fixed test))

pub starts_choice : {A : Type 0} {a b : Lexeme → Bool} {L M : List Lexeme → A → Type 0} → Starts a L → Starts b M → Starts (or_test a b) (Choice L M)
starts_choice {a} {b} r s = record {
  at = λ x v z h. elim h [
    | inl k ↦ begins_if a (or_test a b) (λ t e. or_left (a t) (b t) e) (x ++ z) (r.at x v z k)
    | inr k ↦ begins_if b (or_test a b) (λ t e. or_right (a t) (b t) e) (x ++ z) (s.at x v z k)
  ];
}

-- the first token of a list decides
pub begins_apart : {a b : Lexeme → Bool} → Apart a b → (z : List Lexeme) → begins a z ≡ true → begins b z ≡ false
begins_apart r [] e = absurd cc
begins_apart r (t ∷ z) e = r.apart t e

pub starts_denotes : {A : Type 0} (a : A) (test : Lexeme → Bool) → Starts test (Denotes a test)
starts_denotes a test = starts_built (λ (nothing : Unit {0}). a) (starts_fixed test)

pub starts_preceded_or_not : {A : Type 0} {other : Lexeme → Bool} (test : Lexeme → Bool) {L : List Lexeme → A → Type 0} → Starts other L → Starts (or_test test other) (PrecededOrNot test L)
starts_preceded_or_not test {L} s = starts_choice (starts_preceded test L) s
