-- The second token of a language, and the third.
use Rattle.std.proofs.Common.{◌≡◌, Bool, true, false, List, [], ◌∷◌, ◌++◌, ap, ◌∙◌}
use Rattle.sql_statements.specs.Lexemes.{Lexeme}
use Rattle.sql_front.specs.Language.{Preceded}
use Rattle.sql_front.specs.reading.Reading.{third_is}
use Rattle.sql_front.specs.reading.ElementReaders.{second_is}
use Rattle.sql_front.proofs.First.{Apart, Starts, begins_apart}

-- after one token the language begins
pub second_starts : {A : Type 0} {a test : Lexeme → Bool} {L : List Lexeme → A → Type 0} → Starts test L
    → (x : List Lexeme) (v : A) (z : List Lexeme) → Preceded a L x v → second_is test (x ++ z) ≡ true
second_starts {test = test} s x v z h =
    let parts = h.2 in
    let split : x ≡ parts.3.0 ∷ parts.1 = parts.2 ∙ ap (λ (w : List Lexeme). w ++ parts.1) parts.3.2 in
    let whole : x ++ z ≡ parts.3.0 ∷ (parts.1 ++ z) = ap (λ (w : List Lexeme). w ++ z) split in
    ap (second_is test) whole ∙ s.at parts.1 h.0.1 z parts.4

-- after two tokens the language begins
pub third_starts : {A : Type 0} {a b test : Lexeme → Bool} {L : List Lexeme → A → Type 0} → Starts test L
    → (x : List Lexeme) (v : A) (z : List Lexeme) → Preceded a (Preceded b L) x v → third_is test (x ++ z) ≡ true
third_starts {test = test} s x v z h =
    let outer = h.2 in
    let inner = outer.4.2 in
    let first : x ≡ outer.3.0 ∷ outer.1 = outer.2 ∙ ap (λ (w : List Lexeme). w ++ outer.1) outer.3.2 in
    let second : outer.1 ≡ inner.3.0 ∷ inner.1 = inner.2 ∙ ap (λ (w : List Lexeme). w ++ inner.1) inner.3.2 in
    let both : x ≡ outer.3.0 ∷ inner.3.0 ∷ inner.1 = first ∙ ap (λ (w : List Lexeme). outer.3.0 ∷ w) second in
    let whole : x ++ z ≡ outer.3.0 ∷ inner.3.0 ∷ (inner.1 ++ z) = ap (λ (w : List Lexeme). w ++ z) both in
    ap (third_is test) whole ∙ s.at inner.1 outer.4.0.1 z inner.4

-- the second token decides
pub second_apart : {a b : Lexeme → Bool} → Apart a b → (z : List Lexeme) → second_is a z ≡ true → second_is b z ≡ false
second_apart r [] e = absurd cc
second_apart r (t ∷ rest) e = begins_apart r rest e

-- the third token decides
pub third_apart : {a b : Lexeme → Bool} → Apart a b → (z : List Lexeme) → third_is a z ≡ true → third_is b z ≡ false
third_apart r [] e = absurd cc
third_apart r (t ∷ []) e = absurd cc
third_apart r (t ∷ u ∷ rest) e = begins_apart r rest e
