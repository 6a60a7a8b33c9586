-- A language is read at a depth, by the room that it leaves for parentheses.
use Rattle.std.proofs.Common.{◌≡◌, ℕ, zero, suc, Bool, true, false, List, [], ◌∷◌, ◌++◌, Option, Some, None, refl, sym, ap, ◌∙◌, inl, inr, codes}
use Rattle.std.specs.Str.{bytes_eq}
use Rattle.std.proofs.lemmas.Bool.{cases_Bool}
use Rattle.sql_statements.specs.Lexemes.{Lexeme}
use Rattle.sql_front.specs.Language.{keyword, symbol, number, text, OneToken, Fixed, Sequence, Built, Denotes, Choice, Repetition, Optional, Preceded, PrecededOrNot, Separated, Enclosed}
use Rattle.sql_front.specs.Grammar.{name}
use Rattle.sql_front.specs.Depth.{opens, closes, room}
use Rattle.period_core.specs.TextReading.{◌>>=◌}
use Rattle.period_core.proofs.OptionFacts.{bind_some, none_some, some_is}
use Rattle.sql_front.proofs.First.{Apart, apart_kinds, keyword_kind, symbol_kind, number_kind, text_kind, symbols_apart}
use Rattle.sql_front.proofs.NameSorts.{name_kind}
use Rattle.sql_front.proofs.DepthFacts.{no_room, close_not_open}

pub room_append : (k : ℕ) (x y : List Lexeme) → room k (x ++ y) ≡ (room k x >>= λ j. room j y)
unfolding room
room_append k [] y = refl
room_append zero (t ∷ x) y =
    elim (cases_Bool (opens t)) [
      | inl e ↦ rw e refl
      | inr e ↦ elim (cases_Bool (closes t)) [ inl f ↦ rw (e, f) (room_append 1 x y) | inr f ↦ rw (e, f) (room_append zero x y) ]
    ]
room_append (suc k) (t ∷ x) y =
    elim (cases_Bool (opens t)) [
      | inl e ↦ rw e (room_append k x y)
      | inr e ↦ elim (cases_Bool (closes t)) [ inl f ↦ rw (e, f) (room_append (suc (suc k)) x y) | inr f ↦ rw (e, f) (room_append (suc k) x y) ]
    ]

-- if room is left, a text of L is one of M, and leaves as much room as it found
pub record Level {A : Type 0} (k : ℕ) (L M : List Lexeme → A → Type 0) : Type 0 where
  pub keeps : (x : List Lexeme) (a : A) (j : ℕ) → L x a → room k x ≡ Some j → (j ≡ k) × M x a

-- a token that is no parenthesis
pub record Plain (test : Lexeme → Bool) : Type 0 where
  pub opening : Apart test opens
  pub closing : Apart test closes

pub room_plain : (k : ℕ) (t : Lexeme) → opens t ≡ false → closes t ≡ false → room k (t ∷ []) ≡ Some k
unfolding room
room_plain zero t e f = rw (e, f) refl
room_plain (suc k) t e f = rw (e, f) refl

pub level_one : {test : Lexeme → Bool} (k : ℕ) → Plain test → Level k (OneToken test) (OneToken test)
level_one k p = record {
  keeps = λ x a j h e.
      let one : room k x ≡ Some k = ap (room k) h.2 ∙ room_plain k h.0 (p.opening.apart h.0 h.1) (p.closing.apart h.0 h.1) in
      (some_is j k (sym e ∙ one), h);
}

pub level_fixed : {test : Lexeme → Bool} (k : ℕ) → Plain test → Level k (Fixed test) (Fixed test)
level_fixed k p = record {
  keeps = λ x a j h e.
      let one : room k x ≡ Some k = ap (room k) h.2 ∙ room_plain k h.0 (p.opening.apart h.0 h.1) (p.closing.apart h.0 h.1) in
      (some_is j k (sym e ∙ one), h);
}

pub level_sequence : {A B : Type 0} {k : ℕ} {L L2 : List Lexeme → A → Type 0} {M M2 : List Lexeme → B → Type 0} → Level k L L2 → Level k M M2 → Level k (Sequence L M) (Sequence L2 M2)
level_sequence {A} {B} {k} r s = record {
  keeps = λ x v j h e.
      let split : (room k h.0 >>= λ i. room i h.1) ≡ Some j = sym (room_append k h.0 h.1) ∙ ap (room k) (sym h.2) ∙ e in
      let a = bind_some (room k h.0) (λ i. room i h.1) j split in
      let p = r.keeps h.0 v.0 a.0 h.3 a.1 in
      let q = s.keeps h.1 v.1 j h.4 (ap (λ (i : ℕ). room i h.1) (sym p.0) ∙ a.2) in
      (q.0, (h.0, h.1, h.2, p.1, q.1));
}

pub level_built : {A B : Type 0} {k : ℕ} (f : A → B) {L M : List Lexeme → A → Type 0} → Level k L M → Level k (Built f L) (Built f M)
level_built f r = record { keeps = λ x b j h e. let p = r.keeps x h.0 j h.2 e in (p.0, (h.0, h.1, p.1)) }

pub level_choice : {A : Type 0} {k : ℕ} {L L2 M M2 : List Lexeme → A → Type 0} → Level k L L2 → Level k M M2 → Level k (Choice L M) (Choice L2 M2)
level_choice r s = record {
  keeps = λ x a j h e. elim h [
    | inl v ↦ let p = r.keeps x a j v e in (p.0, inl p.1)
    | inr v ↦ let p = s.keeps x a j v e in (p.0, inr p.1)
  ];
}

optional_keeps : {A : Type 0} {k : ℕ} {L M : List Lexeme → A → Type 0} → Level k L M → (x : List Lexeme) (a : Option A) (j : ℕ) → Optional L x a → room k x ≡ Some j → (j ≡ k) × Optional M x a
unfolding room
optional_keeps {A} {k} r x None j h e = (some_is j k (sym e ∙ ap (room k) h), h)
optional_keeps r x (Some a) j h e = r.keeps x a j h e

pub level_optional : {A : Type 0} {k : ℕ} {L M : List Lexeme → A → Type 0} → Level k L M → Level k (Optional L) (Optional M)
level_optional r = record { keeps = optional_keeps r }

repetition_keeps : {A : Type 0} {k : ℕ} {L M : List Lexeme → A → Type 0} → Level k L M → (x : List Lexeme) (v : List A) (j : ℕ) → Repetition L x v → room k x ≡ Some j → (j ≡ k) × Repetition M x v
unfolding room
repetition_keeps {A} {k} r x [] j h e = (some_is j k (sym e ∙ ap (room k) h), h)
repetition_keeps {A} {k} r x (a ∷ v) j h e =
    let split : (room k h.0 >>= λ i. room i h.1) ≡ Some j = sym (room_append k h.0 h.1) ∙ ap (room k) (sym h.2) ∙ e in
    let b = bind_some (room k h.0) (λ i. room i h.1) j split in
    let p = r.keeps h.0 a b.0 h.3 b.1 in
    let q = repetition_keeps r h.1 v j h.4 (ap (λ (i : ℕ). room i h.1) (sym p.0) ∙ b.2) in
    (q.0, (h.0, h.1, h.2, p.1, q.1))

pub level_repetition : {A : Type 0} {k : ℕ} {L M : List Lexeme → A → Type 0} → Level k L M → Level k (Repetition L) (Repetition M)
level_repetition r = record { keeps = repetition_keeps r }

pub level_preceded : {A : Type 0} {k : ℕ} {test : Lexeme → Bool} {L M : List Lexeme → A → Type 0} → Plain test → Level k L M → Level k (Preceded test L) (Preceded test M)
level_preceded {A} {k} p r = level_built (λ (v : Unit {0} × A). v.1) (level_sequence (level_fixed k p) r)

pub level_preceded_or_not : {A : Type 0} {k : ℕ} {test : Lexeme → Bool} {L M : List Lexeme → A → Type 0} → Plain test → Level k L M → Level k (PrecededOrNot test L) (PrecededOrNot test M)
level_preceded_or_not p r = level_choice (level_preceded p r) r

pub level_separated : {A : Type 0} {k : ℕ} {test : Lexeme → Bool} {L M : List Lexeme → A → Type 0} → Plain test → Level k L M → Level k (Separated test L) (Separated test M)
level_separated {A} p r = level_built (λ (v : A × List A). v.0 ∷ v.1) (level_sequence r (level_repetition (level_preceded p r)))

-- ---- parentheses

open_room : (k : ℕ) (t : Lexeme) (y : List Lexeme) → opens t ≡ true → room (suc k) (t ∷ y) ≡ room k y
unfolding room
open_room k t y e = rw e refl

close_room : (k : ℕ) (t : Lexeme) → closes t ≡ true → room k (t ∷ []) ≡ Some (suc k)
unfolding room
close_room zero t e = rw (close_not_open.apart t e, e) refl
close_room (suc k) t e = rw (close_not_open.apart t e, e) refl

pub level_enclosed : {A : Type 0} {k : ℕ} {L M : List Lexeme → A → Type 0} → Level k L M → Level (suc k) (Enclosed L) (Enclosed M)
level_enclosed {A} {k} {L} {M} r = record {
  keeps = λ x a j h e.
      let front = h.2 in
      let inner = front.4.2 in
      let at : x ≡ front.3.0 ∷ (inner.0 ++ inner.1) = front.2 ∙ ap (λ (z : List Lexeme). z ++ front.1) front.3.2 ∙ ap (λ (z : List Lexeme). front.3.0 ∷ z) inner.2 in
      let opened : room k (inner.0 ++ inner.1) ≡ Some j = sym (open_room k front.3.0 (inner.0 ++ inner.1) front.3.1) ∙ ap (room (suc k)) (sym at) ∙ e in
      let split : (room k inner.0 >>= λ i. room i inner.1) ≡ Some j = sym (room_append k inner.0 inner.1) ∙ opened in
      let b = bind_some (room k inner.0) (λ i. room i inner.1) j split in
      let p = r.keeps inner.0 front.4.0.0 b.0 inner.3 b.1 in
      let last : room k inner.1 ≡ Some (suc k) = ap (room k) inner.4.2 ∙ close_room k inner.4.0 inner.4.1 in
      let same : j ≡ suc k = some_is j (suc k) (sym b.2 ∙ ap (λ (i : ℕ). room i inner.1) p.0 ∙ last) in
      (same, (h.0, h.1, (front.0, front.1, front.2, front.3, (front.4.0, front.4.1, (inner.0, inner.1, inner.2, p.1, inner.4)))));
}

-- if there is room for no parenthesis, none opens
pub level_closed : {A : Type 0} (L M : List Lexeme → A → Type 0) → Level zero (Enclosed L) M
level_closed L M = record {
  keeps = λ x a j h e.
      let front = h.2 in
      let at : x ≡ front.3.0 ∷ front.1 = front.2 ∙ ap (λ (z : List Lexeme). z ++ front.1) front.3.2 in
      absurd (none_some j (sym (no_room front.3.0 front.1 front.3.1) ∙ ap (room zero) (sym at) ∙ e));
}

-- ---- tokens

pub plain_keyword : (w : List ℕ) → Plain (keyword w)
plain_keyword w = record { opening = apart_kinds (keyword_kind w) (symbol_kind (codes "(")) (λ e. cc); closing = apart_kinds (keyword_kind w) (symbol_kind (codes ")")) (λ e. cc) }

pub plain_number : Plain number
plain_number = record { opening = apart_kinds number_kind (symbol_kind (codes "(")) (λ e. cc); closing = apart_kinds number_kind (symbol_kind (codes ")")) (λ e. cc) }

pub plain_text : Plain text
plain_text = record { opening = apart_kinds text_kind (symbol_kind (codes "(")) (λ e. cc); closing = apart_kinds text_kind (symbol_kind (codes ")")) (λ e. cc) }

pub plain_name : Plain name
plain_name = record { opening = apart_kinds name_kind (symbol_kind (codes "(")) (λ e. cc); closing = apart_kinds name_kind (symbol_kind (codes ")")) (λ e. cc) }

pub plain_symbol : (s : List ℕ) → bytes_eq s (codes "(") ≡ false → bytes_eq s (codes ")") ≡ false → Plain (symbol s)
plain_symbol s e f = record { opening = symbols_apart s (codes "(") e; closing = symbols_apart s (codes ")") f }

pub level_of_token : {A : Type 0} (k : ℕ) (a : A) {test : Lexeme → Bool} → Plain test → Level k (Denotes a test) (Denotes a test)
level_of_token k a p = level_built (λ (nothing : Unit {0}). a) (level_fixed k p)

-- a text that opens no parentheses of its own, in parentheses
pub level_enclosed_same : {A : Type 0} {L : List Lexeme → A → Type 0} (k : ℕ) → ((j : ℕ) → Level j L L) → Level k (Enclosed L) (Enclosed L)
level_enclosed_same {A} {L} zero r = level_closed L (Enclosed L)
level_enclosed_same (suc k) r = level_enclosed (r k)
