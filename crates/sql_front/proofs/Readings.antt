-- A production by the values of its literals: the value that each names, the value that is read, any value.
use Rattle.std.proofs.Common.{◌≡◌, ℕ, Bool, false, List, [], ◌∷◌, ◌++◌, Option, Some, None, refl, sym, ap, subst, ◌∙◌, append_assoc, inl, inr, codes}
use Rattle.std.specs.Str.{bytes_eq}
use Rattle.std.proofs.lemmas.List.{append-nil}
use Rattle.sql_statements.specs.Lexemes.{Lexeme}
use Rattle.sql_front.specs.Language.{Language, keyword, symbol, number, text, OneToken, Fixed, Sequence, Built, Denotes, Choice, Repetition, Optional, Preceded, PrecededOrNot, Separated, Enclosed}
use Rattle.sql_front.specs.Grammar.{name}
use Rattle.sql_front.specs.LiteralFaults.{HasBadDate, HasBadMoment, HasNumberOutside, ends_in_minus, limit_after}
use Rattle.sql_front.proofs.First.{Apart, apart_kinds, keyword_kind, number_kind, symbol_kind, symbols_apart, text_kind}
use Rattle.sql_front.proofs.NameSorts.{name_kind}

-- nothing is wrong with the tokens' literals
pub record NoFault (x : List Lexeme) : Type 0 where
  pub dates : HasBadDate x → ⊥
  pub moments : HasBadMoment x → ⊥
  pub numbers : HasNumberOutside x → ⊥

-- ---- parts of a list without faults

front_date : (x y : List Lexeme) → HasBadDate x → HasBadDate (x ++ y)
front_date x y h = (h.0, h.1, h.2, h.3 ++ y, ap (λ (z : List Lexeme). z ++ y) h.4 ∙ append_assoc h.0 (h.1 ∷ h.2 ∷ h.3) y, h.5)

front_moment : (x y : List Lexeme) → HasBadMoment x → HasBadMoment (x ++ y)
front_moment x y (inl h) = inl (h.0, h.1, h.2, h.3 ++ y, ap (λ (z : List Lexeme). z ++ y) h.4 ∙ append_assoc h.0 (h.1 ∷ h.2 ∷ h.3) y, h.5)
front_moment x y (inr h) = inr (h.0, h.1, h.2, h.3, h.4 ++ y, ap (λ (z : List Lexeme). z ++ y) h.5 ∙ append_assoc h.0 (h.1 ∷ h.2 ∷ h.3 ∷ h.4) y, h.6, h.7, h.8, h.9)

front_number : (x y : List Lexeme) → HasNumberOutside x → HasNumberOutside (x ++ y)
front_number x y h = (h.0, h.1, h.2 ++ y, ap (λ (z : List Lexeme). z ++ y) h.3 ∙ append_assoc h.0 (h.1 ∷ h.2) y, h.4, h.5)

pub no_fault_front : (x y : List Lexeme) → NoFault (x ++ y) → NoFault x
no_fault_front x y f = record {
  dates = λ h. f.dates (front_date x y h);
  moments = λ h. f.moments (front_moment x y h);
  numbers = λ h. f.numbers (front_number x y h);
}

-- the last token of two lists is the second's, if it has one
minus_of_second : (x : List Lexeme) (t : Lexeme) (y : List Lexeme) → ends_in_minus (x ++ t ∷ y) ≡ ends_in_minus (t ∷ y)
minus_of_second [] t y = refl
minus_of_second (s ∷ []) t y = refl
minus_of_second (s ∷ u ∷ x) t y = minus_of_second (u ∷ x) t y

minus_of_both : (x y : List Lexeme) → ends_in_minus x ≡ false → ends_in_minus (x ++ y) ≡ ends_in_minus y
minus_of_both x [] e = ap ends_in_minus (append-nil x) ∙ e
minus_of_both x (t ∷ y) e = minus_of_second x t y

back_date : (x y : List Lexeme) → HasBadDate y → HasBadDate (x ++ y)
back_date x y h = (x ++ h.0, h.1, h.2, h.3, ap (λ (z : List Lexeme). x ++ z) h.4 ∙ sym (append_assoc x h.0 (h.1 ∷ h.2 ∷ h.3)), h.5)

back_moment : (x y : List Lexeme) → HasBadMoment y → HasBadMoment (x ++ y)
back_moment x y (inl h) = inl (x ++ h.0, h.1, h.2, h.3, ap (λ (z : List Lexeme). x ++ z) h.4 ∙ sym (append_assoc x h.0 (h.1 ∷ h.2 ∷ h.3)), h.5)
back_moment x y (inr h) = inr (x ++ h.0, h.1, h.2, h.3, h.4, ap (λ (z : List Lexeme). x ++ z) h.5 ∙ sym (append_assoc x h.0 (h.1 ∷ h.2 ∷ h.3 ∷ h.4)), h.6, h.7, h.8, h.9)

limit_of_both : (x y : List Lexeme) → ends_in_minus x ≡ false → limit_after (x ++ y) ≡ limit_after y
limit_of_both x y e = rw (minus_of_both x y e) refl

back_number : (x y : List Lexeme) → ends_in_minus x ≡ false → HasNumberOutside y → HasNumberOutside (x ++ y)
back_number x y e h =
    (x ++ h.0, h.1, h.2, ap (λ (z : List Lexeme). x ++ z) h.3 ∙ sym (append_assoc x h.0 (h.1 ∷ h.2)), h.4, rw (limit_of_both x h.0 e) h.5)

pub no_fault_back : (x y : List Lexeme) → ends_in_minus x ≡ false → NoFault (x ++ y) → NoFault y
no_fault_back x y e f = record {
  dates = λ h. f.dates (back_date x y h);
  moments = λ h. f.moments (back_moment x y h);
  numbers = λ h. f.numbers (back_number x y e h);
}

-- ---- the three ways of reading

pub record Readings {A : Type 0} (Exact Read Loose : Language A) : Type 0 where
  -- if no literal has a fault, what is read is exact; and the text ends in no minus
  pub sharp : (x : List Lexeme) (a : A) → NoFault x → Read x a → Exact x a × (ends_in_minus x ≡ false)
  -- each exact reading is a reading
  pub known : (x : List Lexeme) (a : A) → Exact x a → Read x a
  -- each reading is a reading with some values
  pub loose : (x : List Lexeme) (a : A) → Read x a → Loose x a
  -- if any value is spelled, some value is read
  pub some : (x : List Lexeme) (a : A) → Loose x a → (b : A) × Read x b

-- ---- tokens

-- a token that is no minus
pub record NoMinus (test : Lexeme → Bool) : Type 0 where
  pub minus : Apart test (symbol (codes "-"))

pub keyword_no_minus : (w : List ℕ) → NoMinus (keyword w)
keyword_no_minus w = record { minus = apart_kinds (keyword_kind w) (symbol_kind (codes "-")) (λ e. cc) }

pub number_no_minus : NoMinus number
number_no_minus = record { minus = apart_kinds number_kind (symbol_kind (codes "-")) (λ e. cc) }

pub text_no_minus : NoMinus text
text_no_minus = record { minus = apart_kinds text_kind (symbol_kind (codes "-")) (λ e. cc) }

pub name_no_minus : NoMinus name
name_no_minus = record { minus = apart_kinds name_kind (symbol_kind (codes "-")) (λ e. cc) }

pub symbol_no_minus : (s : List ℕ) → bytes_eq s (codes "-") ≡ false → NoMinus (symbol s)
symbol_no_minus s e = record { minus = symbols_apart s (codes "-") e }

pub readings_one : {test : Lexeme → Bool} → NoMinus test → Readings (OneToken test) (OneToken test) (OneToken test)
readings_one n = record {
  sharp = λ x a f h. (h, ap ends_in_minus h.2 ∙ n.minus.apart h.0 h.1);
  known = λ x a h. h;
  loose = λ x a h. h;
  some = λ x a h. (a, h);
}

pub readings_fixed : {test : Lexeme → Bool} → NoMinus test → Readings (Fixed test) (Fixed test) (Fixed test)
readings_fixed n = record {
  sharp = λ x a f h. (h, ap ends_in_minus h.2 ∙ n.minus.apart h.0 h.1);
  known = λ x a h. h;
  loose = λ x a h. h;
  some = λ x a h. (a, h);
}

-- ---- the ways of making a language

pub readings_sequence : {A B : Type 0} {E S Y : Language A} {E2 S2 Y2 : Language B} → Readings E S Y → Readings E2 S2 Y2 → Readings (Sequence E E2) (Sequence S S2) (Sequence Y Y2)
readings_sequence {A} {B} {E} {S} {Y} {E2} {S2} {Y2} r s = record {
  sharp = λ x v f h.
      let whole : NoFault (h.0 ++ h.1) = subst NoFault h.2 f in
      let p = r.sharp h.0 v.0 (no_fault_front h.0 h.1 whole) h.3 in
      let q = s.sharp h.1 v.1 (no_fault_back h.0 h.1 p.1 whole) h.4 in
      ((h.0, h.1, h.2, p.0, q.0), ap ends_in_minus h.2 ∙ minus_of_both h.0 h.1 p.1 ∙ q.1);
  known = λ x v h. (h.0, h.1, h.2, r.known h.0 v.0 h.3, s.known h.1 v.1 h.4);
  loose = λ x v h. (h.0, h.1, h.2, r.loose h.0 v.0 h.3, s.loose h.1 v.1 h.4);
  some = λ x v h.
      let p = r.some h.0 v.0 h.3 in
      let q = s.some h.1 v.1 h.4 in
      ((p.0, q.0), (h.0, h.1, h.2, p.1, q.1));
}

pub readings_built : {A B : Type 0} (f : A → B) {E S Y : Language A} → Readings E S Y → Readings (Built f E) (Built f S) (Built f Y)
readings_built f r = record {
  sharp = λ x b n h. let p = r.sharp x h.0 n h.2 in ((h.0, h.1, p.0), p.1);
  known = λ x b h. (h.0, h.1, r.known x h.0 h.2);
  loose = λ x b h. (h.0, h.1, r.loose x h.0 h.2);
  some = λ x b h. let p = r.some x h.0 h.2 in (f p.0, (p.0, refl, p.1));
}

pub readings_choice : {A : Type 0} {E S Y E2 S2 Y2 : Language A} → Readings E S Y → Readings E2 S2 Y2 → Readings (Choice E E2) (Choice S S2) (Choice Y Y2)
readings_choice r s = record {
  sharp = λ x a n h. elim h [
    | inl k ↦ let p = r.sharp x a n k in (inl p.0, p.1)
    | inr k ↦ let p = s.sharp x a n k in (inr p.0, p.1)
  ];
  known = λ x a h. elim h [ inl k ↦ inl (r.known x a k) | inr k ↦ inr (s.known x a k) ];
  loose = λ x a h. elim h [ inl k ↦ inl (r.loose x a k) | inr k ↦ inr (s.loose x a k) ];
  some = λ x a h. elim h [
    | inl k ↦ let p = r.some x a k in (p.0, inl p.1)
    | inr k ↦ let p = s.some x a k in (p.0, inr p.1)
  ];
}

module _ {A : Type 0} {E S Y : Language A} (r : Readings E S Y) where
  optional_sharp : (x : List Lexeme) (a : Option A) → NoFault x → Optional S x a → Optional E x a × (ends_in_minus x ≡ false)
  optional_sharp x None f h = (h, ap ends_in_minus h)
  optional_sharp x (Some a) f h = r.sharp x a f h

  optional_known : (x : List Lexeme) (a : Option A) → Optional E x a → Optional S x a
  optional_known x None h = h
  optional_known x (Some a) h = r.known x a h

  optional_loose : (x : List Lexeme) (a : Option A) → Optional S x a → Optional Y x a
  optional_loose x None h = h
  optional_loose x (Some a) h = r.loose x a h

  optional_some : (x : List Lexeme) (a : Option A) → Optional Y x a → (b : Option A) × Optional S x b
  optional_some x None h = (None, h)
  optional_some x (Some a) h = let p = r.some x a h in (Some p.0, p.1)

  pub readings_optional : Readings (Optional E) (Optional S) (Optional Y)
  readings_optional = record { sharp = optional_sharp; known = optional_known; loose = optional_loose; some = optional_some }

  repetition_sharp : (x : List Lexeme) (v : List A) → NoFault x → Repetition S x v → Repetition E x v × (ends_in_minus x ≡ false)
  repetition_sharp x [] f h = (h, ap ends_in_minus h)
  repetition_sharp x (a ∷ v) f h =
      let whole : NoFault (h.0 ++ h.1) = subst NoFault h.2 f in
      let p = r.sharp h.0 a (no_fault_front h.0 h.1 whole) h.3 in
      let q = repetition_sharp h.1 v (no_fault_back h.0 h.1 p.1 whole) h.4 in
      ((h.0, h.1, h.2, p.0, q.0), ap ends_in_minus h.2 ∙ minus_of_both h.0 h.1 p.1 ∙ q.1)

  repetition_known : (x : List Lexeme) (v : List A) → Repetition E x v → Repetition S x v
  repetition_known x [] h = h
  repetition_known x (a ∷ v) h = (h.0, h.1, h.2, r.known h.0 a h.3, repetition_known h.1 v h.4)

  repetition_loose : (x : List Lexeme) (v : List A) → Repetition S x v → Repetition Y x v
  repetition_loose x [] h = h
  repetition_loose x (a ∷ v) h = (h.0, h.1, h.2, r.loose h.0 a h.3, repetition_loose h.1 v h.4)

  repetition_some : (x : List Lexeme) (v : List A) → Repetition Y x v → (w : List A) × Repetition S x w
  repetition_some x [] h = ([], h)
  repetition_some x (a ∷ v) h =
      let p = r.some h.0 a h.3 in
      let q = repetition_some h.1 v h.4 in
      (p.0 ∷ q.0, (h.0, h.1, h.2, p.1, q.1))

  pub readings_repetition : Readings (Repetition E) (Repetition S) (Repetition Y)
  readings_repetition = record { sharp = repetition_sharp; known = repetition_known; loose = repetition_loose; some = repetition_some }

pub readings_of_token : {A : Type 0} (a : A) {test : Lexeme → Bool} → NoMinus test → Readings (Denotes a test) (Denotes a test) (Denotes a test)
readings_of_token a n = readings_built (λ (nothing : Unit {0}). a) (readings_fixed n)

pub readings_preceded : {A : Type 0} {test : Lexeme → Bool} {E S Y : Language A} → NoMinus test → Readings E S Y → Readings (Preceded test E) (Preceded test S) (Preceded test Y)
readings_preceded {A} n r = readings_built (λ (v : Unit {0} × A). v.1) (readings_sequence (readings_fixed n) r)

pub readings_preceded_or_not : {A : Type 0} {test : Lexeme → Bool} {E S Y : Language A} → NoMinus test → Readings E S Y → Readings (PrecededOrNot test E) (PrecededOrNot test S) (PrecededOrNot test Y)
readings_preceded_or_not n r = readings_choice (readings_preceded n r) r

pub readings_separated : {A : Type 0} {test : Lexeme → Bool} {E S Y : Language A} → NoMinus test → Readings E S Y → Readings (Separated test E) (Separated test S) (Separated test Y)
readings_separated {A} n r = readings_built (λ (v : A × List A). v.0 ∷ v.1) (readings_sequence r (readings_repetition (readings_preceded n r)))

pub readings_enclosed : {A : Type 0} {E S Y : Language A} → Readings E S Y → Readings (Enclosed E) (Enclosed S) (Enclosed Y)
readings_enclosed {A} r =
    readings_preceded (symbol_no_minus (codes "(") refl)
    (readings_built (λ (v : A × Unit {0}). v.0) (readings_sequence r (readings_fixed (symbol_no_minus (codes ")") refl))))
