-- Literals, by their values.
use Rattle.std.proofs.Common.{◌≡◌, ℕ, ℤ, pos, neg_ℤ, ◌<◌, ◌≤◌, ◌+◌, Bool, true, false, nat_lt, List, [], ◌∷◌, ◌++◌, refl, sym, ap, subst, ◌∙◌, inl, inr, codes, arith}
use Rattle.std.proofs.lemmas.Bool.{cases_Bool}
use Rattle.std.proofs.lemmas.Bool.Decides.{nat_tests}
use Rattle.period_core.specs.declared.value.Value.TheVariants as value
use Rattle.sql_statements.specs.Lexemes.{Lexeme}
use Rattle.sql_front.specs.Language.{Language, keyword, symbol, number, or_test, text, OneToken, Built, Preceded, Related}
use Rattle.sql_front.specs.LiteralValues.{NamesClockMoment, NamesDay, NamesMoment, NamesNegative, NamesNumber, number_of_digits}
use Rattle.period_core.specs.Encoding.{greatest_number}
use Rattle.sql_front.specs.reading.LeafValues.{clock_value, day_value, moment_value, negative_value, number_value, up_to}
use Rattle.sql_front.specs.Literals.{Anything, any_value, exact}
use Rattle.sql_front.specs.Placeholders.{placeholders}
use Rattle.sql_front.specs.Builders.{number_of, text_of}
use Rattle.sql_front.specs.Grammar.{IsClockMoment, IsDate, IsLiteral, IsMoment, IsNumber, IsTuple, comma}
use Rattle.sql_front.specs.LiteralFaults.{ends_in_minus, limit_after}
use Rattle.sql_front.proofs.LeafFacts.{clock_named, clock_only, day_named, day_only, moment_named, moment_only}
use Rattle.sql_front.proofs.Readings.{NoFault, NoMinus, Readings, number_no_minus, readings_built, readings_choice, readings_enclosed, readings_one, readings_preceded_or_not, readings_separated, symbol_no_minus, text_no_minus}

-- ---- a token and one after it

-- the two tokens of a language that has a token, then one with a value
record Two (first second : Lexeme → Bool) (x : List Lexeme) : Type 0 where
  one : Lexeme
  other : Lexeme
  at : x ≡ one ∷ other ∷ []
  begins : first one ≡ true
  ends : second other ≡ true

-- two tokens of these kinds, the second of which is in this relation to the value
abbrev SecondIs : {B : Type 0} → (Lexeme → Bool) → (Lexeme → Bool) → (List ℕ → B → Type 0) → Language B
SecondIs first second R = Preceded first (Related R (OneToken second))

-- two tokens of these kinds, the second of which is read as this value
abbrev SecondReads : {B : Type 0} → (Lexeme → Bool) → (Lexeme → Bool) → (List ℕ → B) → Language B
SecondReads first second read = Preceded first (Built read (OneToken second))

module _ {B : Type 0} {first second : Lexeme → Bool} where
  related_two : (R : List ℕ → B → Type 0) (x : List Lexeme) (b : B) → SecondIs first second R x b → (t : Two first second x) × R t.other.text b
  related_two R x b h =
      let token = h.2.4.2 in (
        record {
          one = h.2.3.0;
          other = token.0;
          at = h.2.2 ∙ ap (λ (z : List Lexeme). z ++ h.2.1) h.2.3.2 ∙ ap (λ (z : List Lexeme). h.2.3.0 ∷ z) token.2;
          begins = h.2.3.1;
          ends = token.1;
        },
        subst (λ (w : List ℕ). R w b) token.3 (subst (λ (c : B). R h.2.4.0 c) (sym h.1) h.2.4.1),
      )

  two_related : (R : List ℕ → B → Type 0) (x : List Lexeme) (b : B) (t : Two first second x) → R t.other.text b → SecondIs first second R x b
  two_related R x b t r =
      ((tt, b), refl, (t.one ∷ [], t.other ∷ [], t.at, (t.one, t.begins, refl), (t.other.text, r, (t.other, t.ends, refl, refl))))

  -- the exact reading, the reading by a function, and any reading
  module _ (R : List ℕ → B → Type 0) (read : List ℕ → B) (only : (w : List ℕ) (b : B) → R w b → b ≡ read w) where
    two_exact : (x : List Lexeme) (b : B) → ((t : Two first second x) → R t.other.text (read t.other.text)) → SecondReads first second read x b → SecondIs first second R x b
    two_exact x b named h =
        let t = related_two (λ w c. c ≡ read w) x b h in
        two_related R x b t.0 (subst (λ (c : B). R t.0.other.text c) (sym t.1) (named t.0))

    two_known : (x : List Lexeme) (b : B) → SecondIs first second R x b → SecondReads first second read x b
    two_known x b h =
        let t = related_two R x b h in
        two_related (λ w c. c ≡ read w) x b t.0 (only t.0.other.text b t.1)

    two_loose : (x : List Lexeme) (b : B) → SecondReads first second read x b → SecondIs first second Anything x b
    two_loose x b h = two_related Anything x b (related_two (λ w c. c ≡ read w) x b h).0 tt

    two_some : (x : List Lexeme) (b : B) → SecondIs first second Anything x b → (c : B) × SecondReads first second read x c
    two_some x b h =
        let t = (related_two Anything x b h).0 in
        (read t.other.text, two_related (λ w c. c ≡ read w) x (read t.other.text) t refl)

    two_minus : NoMinus second → (x : List Lexeme) (b : B) → SecondReads first second read x b → ends_in_minus x ≡ false
    two_minus n x b h =
        let t = (related_two (λ w c. c ≡ read w) x b h).0 in
        ap ends_in_minus t.at ∙ n.minus.apart t.other t.ends

    readings_two : NoMinus second → ((x : List Lexeme) (t : Two first second x) → NoFault x → R t.other.text (read t.other.text)) → Readings (SecondIs first second R) (SecondReads first second read) (SecondIs first second Anything)
    readings_two n named = record {
      sharp = λ x b f h. (two_exact x b (λ t. named x t f) h, two_minus n x b h);
      known = two_known;
      loose = two_loose;
      some = two_some;
    }

-- ---- days and moments

pub readings_date : Readings (IsDate exact) (IsDate placeholders) (IsDate any_value)
readings_date =
    readings_two NamesDay day_value day_only text_no_minus
    (λ x t f. day_named t.other.text (λ never. f.dates ([], t.one, t.other, [], t.at, (t.begins, t.ends, never))))

pub readings_moment : Readings (IsMoment exact) (IsMoment placeholders) (IsMoment any_value)
readings_moment =
    readings_two NamesMoment moment_value moment_only text_no_minus
    (λ x t f. moment_named t.other.text (λ never. f.moments (inl ([], t.one, t.other, [], t.at, (t.begins, t.ends, never)))))

-- a moment before the open end, after AT or OF
module _ {first : Lexeme → Bool} (before : (t : Lexeme) → first t ≡ true → or_test (keyword (codes "AT")) (keyword (codes "OF")) t ≡ true) where
  clock_exact : (x : List Lexeme) (m : ℤ) → NoFault x → Preceded first (IsClockMoment placeholders) x m → Preceded first (IsClockMoment exact) x m
  clock_exact x m f h =
      let one = h.2.3.0 in
      let at : x ≡ one ∷ h.2.1 = h.2.2 ∙ ap (λ (z : List Lexeme). z ++ h.2.1) h.2.3.2 in
      let named = λ (t : Two (keyword (codes "TIMESTAMP")) text h.2.1).
      clock_named t.other.text (λ never. f.moments (inr ([], one, t.one, t.other, [], at ∙ ap (λ (z : List Lexeme). one ∷ z) t.at, before one h.2.3.1, t.begins, t.ends, never))) in
      (h.0, h.1, (h.2.0, h.2.1, h.2.2, h.2.3, two_exact NamesClockMoment clock_value clock_only h.2.1 h.0.1 named h.2.4))

  clock_minus : (x : List Lexeme) (m : ℤ) → Preceded first (IsClockMoment placeholders) x m → ends_in_minus x ≡ false
  clock_minus x m h =
      let t = (related_two (λ w c. c ≡ clock_value w) h.2.1 h.0.1 h.2.4).0 in
      let one = h.2.3.0 in
      let at : x ≡ one ∷ t.one ∷ t.other ∷ [] = h.2.2 ∙ ap (λ (z : List Lexeme). z ++ h.2.1) h.2.3.2 ∙ ap (λ (z : List Lexeme). one ∷ z) t.at in
      ap ends_in_minus at ∙ text_no_minus.minus.apart t.other t.ends

  pub readings_clock_moment : Readings (Preceded first (IsClockMoment exact)) (Preceded first (IsClockMoment placeholders)) (Preceded first (IsClockMoment any_value))
  readings_clock_moment = record {
    sharp = λ x m f h. (clock_exact x m f h, clock_minus x m h);
    known = λ x m h. (h.0, h.1, (h.2.0, h.2.1, h.2.2, h.2.3, two_known NamesClockMoment clock_value clock_only h.2.1 h.0.1 h.2.4));
    loose = λ x m h. (h.0, h.1, (h.2.0, h.2.1, h.2.2, h.2.3, two_loose NamesClockMoment clock_value clock_only h.2.1 h.0.1 h.2.4));
    some = λ x m h.
        let c = two_some NamesClockMoment clock_value clock_only h.2.1 h.0.1 h.2.4 in
        (c.0, ((tt, c.0), refl, (h.2.0, h.2.1, h.2.2, h.2.3, c.1)));
  }

-- ---- numbers

within : (limit d : ℕ) → (limit < d → ⊥) → d ≤ limit
within limit d h = elim (cases_Bool (nat_lt limit d)) [
  | inl e ↦ absurd (h (grind (arith, nat_tests, e)))
  | inr e ↦ grind (arith, nat_tests, e)
]

up_to_within : (limit d : ℕ) → d ≤ limit → up_to limit d ≡ d
up_to_within limit d h = elim (cases_Bool (nat_lt limit d)) [
  | inl e ↦ absurd (grind (arith, nat_tests, e, h))
  | inr e ↦ rw e refl
]

number_named : (digits : List ℕ) → number_of_digits digits ≤ greatest_number → NamesNumber digits (number_value digits)
number_named digits h =
    let e = up_to_within greatest_number (number_of_digits digits) h in
    (e, subst (λ (n : ℕ). n ≤ greatest_number) (sym e) h)

number_only : (digits : List ℕ) (n : ℕ) → NamesNumber digits n → n ≡ number_value digits
number_only digits n h = h.0 ∙ sym (up_to_within greatest_number (number_of_digits digits) (subst (λ (m : ℕ). m ≤ greatest_number) h.0 h.1))

negative_named : (digits : List ℕ) → number_of_digits digits ≤ greatest_number + 1 → NamesNegative digits (negative_value digits)
negative_named digits h = (ap (λ (n : ℕ). neg_ℤ (pos n)) (up_to_within (greatest_number + 1) (number_of_digits digits) h), h)

negative_only : (digits : List ℕ) (n : ℤ) → NamesNegative digits n → n ≡ negative_value digits
negative_only digits n h = h.0 ∙ sym (ap (λ (m : ℕ). neg_ℤ (pos m)) (up_to_within (greatest_number + 1) (number_of_digits digits) h.1))

-- the number of a token with nothing before it
number_within : (x : List Lexeme) (t : Lexeme) → x ≡ t ∷ [] → number t ≡ true → NoFault x → number_of_digits t.text ≤ greatest_number
number_within x t at is f = within greatest_number (number_of_digits t.text) (λ above. f.numbers ([], t, [], at, is, above))

limit_after_minus : (t : Lexeme) → symbol (codes "-") t ≡ true → limit_after (t ∷ []) ≡ greatest_number + 1
limit_after_minus t e = rw e refl

pub readings_number : Readings (IsNumber exact) (IsNumber placeholders) (IsNumber any_value)
readings_number = record {
  sharp = λ x n f h.
      let t = h.2.0 in
      let low : number_of_digits h.0 ≤ greatest_number = subst (λ (w : List ℕ). number_of_digits w ≤ greatest_number) (sym h.2.3) (number_within x t h.2.2 h.2.1 f) in
      ((h.0, subst (λ (m : ℕ). NamesNumber h.0 m) (sym h.1) (number_named h.0 low), h.2), ap ends_in_minus h.2.2 ∙ number_no_minus.minus.apart t h.2.1);
  known = λ x n h. (h.0, number_only h.0 n h.1, h.2);
  loose = λ x n h. (h.0, tt, h.2);
  some = λ x n h. (number_value h.0, (h.0, refl, h.2));
}

readings_negative : Readings (Preceded (symbol (codes "-")) exact.minus_number) (Preceded (symbol (codes "-")) placeholders.minus_number) (Preceded (symbol (codes "-")) any_value.minus_number)
readings_negative =
    readings_two NamesNegative negative_value negative_only number_no_minus
    (λ x t f. negative_named t.other.text (within (greatest_number + 1) (number_of_digits t.other.text)
    (λ above. f.numbers (t.one ∷ [], t.other, [], t.at, t.ends, rw (limit_after_minus t.one t.begins) above))))

-- ---- literals

pub readings_literal : Readings (IsLiteral exact) (IsLiteral placeholders) (IsLiteral any_value)
readings_literal =
    readings_choice (readings_built number_of (readings_preceded_or_not (symbol_no_minus (codes "+") refl) readings_number))
    (readings_choice (readings_built value.Int readings_negative)
    (readings_choice (readings_built text_of (readings_one text_no_minus)) (readings_built value.Date readings_date)))

pub comma_no_minus : NoMinus comma
comma_no_minus = symbol_no_minus (codes ",") refl

pub readings_tuple : Readings (IsTuple exact) (IsTuple placeholders) (IsTuple any_value)
readings_tuple = readings_enclosed (readings_separated comma_no_minus readings_literal)
