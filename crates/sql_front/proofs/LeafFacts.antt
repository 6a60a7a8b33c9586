-- The values of dates and moments, against the texts that name them: what is read off a token is the one value that it names.
use Rattle.std.proofs.Common.{◌≡◌, ℕ, ℤ, true, cond, List, Option, Some, None, refl, sym, subst, inl, inr, arith}
use Rattle.std.specs.Prelude.{◌<ℤ◌, int_lt}
use Rattle.std.proofs.lemmas.Bool.{cases_Bool}
use Rattle.std.proofs.lemmas.Int.{ints}
use Rattle.period_core.specs.Calendar.{IsDayText, first_day}
use Rattle.period_core.specs.Moments.{IsMomentText, first_moment, forever}
use Rattle.period_core.proofs.OptionFacts.{bind_some, if_some, none_some, some_is}
use Rattle.period_core.proofs.TextReadings.{day_read_is_text, day_text_is_read, moment_read_is_text, moment_text_is_read}
use Rattle.sql_front.specs.LiteralValues.{IsClockToken, IsDateToken, IsMomentToken, NamesClockMoment, NamesDay, NamesMoment, between_quotes}
use Rattle.sql_front.specs.reading.LeafValues.{clock_of_token, clock_value, day_of_token, day_value, moment_of_token, moment_value, or_else}

-- ---- days and moments

-- the day that is read off a token is one that its text names
pub day_shown : (t : List ℕ) (n : ℤ) → day_of_token t ≡ Some n → IsDayText n (between_quotes t)
unfolding day_of_token
day_shown t n e = day_read_is_text (between_quotes t) n e

-- the day that a token's text names is read off it
pub day_found : (t : List ℕ) (n : ℤ) → IsDayText n (between_quotes t) → day_of_token t ≡ Some n
unfolding day_of_token
day_found t n h = day_text_is_read (between_quotes t) n h

pub moment_shown : (t : List ℕ) (n : ℤ) → moment_of_token t ≡ Some n → IsMomentText n (between_quotes t)
unfolding moment_of_token
moment_shown t n e = moment_read_is_text (between_quotes t) n e

pub moment_found : (t : List ℕ) (n : ℤ) → IsMomentText n (between_quotes t) → moment_of_token t ≡ Some n
unfolding moment_of_token
moment_found t n h = moment_text_is_read (between_quotes t) n h

-- ---- moments before the open end

pub before : (n m : ℤ) → int_lt n m ≡ true → n <ℤ m
before n m e = omega (arith, ints, e)

pub is_before : (n m : ℤ) → n <ℤ m → int_lt n m ≡ true
is_before n m h = elim (cases_Bool (int_lt n m)) [
  | inl e ↦ e
  | inr e ↦ absurd (omega (arith, ints, e, h))
]

pub clock_shown : (t : List ℕ) (n : ℤ) → clock_of_token t ≡ Some n → IsMomentText n (between_quotes t) × (n <ℤ forever)
unfolding clock_of_token
clock_shown t n e =
    let v = bind_some (moment_of_token t) (λ m. cond (int_lt m forever) (Some m) None) n e in
    elim (if_some (int_lt v.0 forever) (Some v.0) None n v.2) [
      | inr k ↦ absurd (none_some n k.1)
      | inl k ↦ subst (λ (z : ℤ). IsMomentText z (between_quotes t) × (z <ℤ forever)) (some_is v.0 n k.1) (moment_shown t v.0 v.1, before v.0 forever k.0)
    ]

pub clock_found : (t : List ℕ) (n : ℤ) → IsMomentText n (between_quotes t) × (n <ℤ forever) → clock_of_token t ≡ Some n
unfolding clock_of_token
clock_found t n h = rw (moment_found t n h.0, is_before n forever h.1) refl

-- ---- the one value that is named

named : (o : Option ℤ) (other : ℤ) (P : ℤ → Type 0) → ((n : ℤ) → o ≡ Some n → P n) → ((n : ℤ) → P n → o ≡ Some n)
    → (((n : ℤ) × P n → ⊥) → ⊥) → P (or_else o other)
named (Some n) other P shown found some = shown n refl
named None other P shown found some = absurd (some (λ h. none_some h.0 (found h.0 h.1)))

only : (o : Option ℤ) (other : ℤ) (P : ℤ → Type 0) → ((n : ℤ) → P n → o ≡ Some n) → (n : ℤ) → P n → n ≡ or_else o other
only (Some m) other P found n h = sym (some_is m n (found n h))
only None other P found n h = absurd (none_some n (found n h))

-- the day that a token names is the one that is read, unless the token names none
pub day_named : (token : List ℕ) → ((IsDateToken token → ⊥) → ⊥) → NamesDay token (day_value token)
unfolding day_value
day_named token some = named (day_of_token token) first_day (NamesDay token) (day_shown token) (day_found token) some

pub day_only : (token : List ℕ) (day : ℤ) → NamesDay token day → day ≡ day_value token
unfolding day_value
day_only token day h = only (day_of_token token) first_day (NamesDay token) (day_found token) day h

pub moment_named : (token : List ℕ) → ((IsMomentToken token → ⊥) → ⊥) → NamesMoment token (moment_value token)
unfolding moment_value
moment_named token some = named (moment_of_token token) first_moment (NamesMoment token) (moment_shown token) (moment_found token) some

pub moment_only : (token : List ℕ) (moment : ℤ) → NamesMoment token moment → moment ≡ moment_value token
unfolding moment_value
moment_only token moment h = only (moment_of_token token) first_moment (NamesMoment token) (moment_found token) moment h

pub clock_named : (token : List ℕ) → ((IsClockToken token → ⊥) → ⊥) → NamesClockMoment token (clock_value token)
unfolding clock_value
clock_named token some = named (clock_of_token token) first_moment (NamesClockMoment token) (clock_shown token) (clock_found token) some

pub clock_only : (token : List ℕ) (moment : ℤ) → NamesClockMoment token moment → moment ≡ clock_value token
unfolding clock_value
clock_only token moment h = only (clock_of_token token) first_moment (NamesClockMoment token) (clock_found token) moment h
