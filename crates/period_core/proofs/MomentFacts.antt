-- The text of a moment's number is the text of its date, its time of day and its fraction.
use Rattle.std.proofs.Common.{◌≡◌, ℕ, ◌/◌, ◌%◌, ◌<◌, ◌++◌, ◌∷◌, [], Bool, true, false, cond, List, length, take, codes, refl, ap, arith, ℤ, pos, ◌+ℤ◌, ◌-ℤ◌, ◌*ℤ◌, ◌≤ℤ◌, unsigned_abs, sym, ◌∙◌}
use Rattle.std.specs.Prelude.{◌==◌}
use Rattle.std.proofs.lemmas.Bool.Decides.{nat_tests}
use Rattle.jiff_core.proofs.SignedLemmas.{one_part, signed_arith}
use Rattle.period_core.specs.Calendar.{IsDayNumber, IsDayText, day_text, first_day}
use Rattle.period_core.specs.Moments.{IsMoment, IsMomentNumber, IsMomentText, ShowsFraction, day_of_moment, first_moment, fraction_text, full_moment_text, moment_of_day, moment_of_second, moment_text, moments_before, moments_per_day, moments_per_hour, moments_per_minute, moments_per_second, six_digits, time_number, time_of_day_text, written_digits}

count_is : (z : ℤ) → pos 0 ≤ℤ z → pos (unsigned_abs z) ≡ z
count_is z h = omega (arith, signed_arith, h, one_part z)

-- the moments before a moment are as many as its number is above the first's
pub moments-counted : (n : ℤ) → IsMomentNumber n →
    (n ≡ first_moment +ℤ pos (moments_before n)) × (moments_before n < 315_537_897_600_000_000)
moments-counted n h =
    let count = count_is (n -ℤ first_moment) (omega (arith, signed_arith, h)) in
    (omega (arith, signed_arith, count), omega (arith, signed_arith, count, h))

days_counted : (k : ℕ) → k < 315_537_897_600_000_000 →
    IsDayNumber (first_day +ℤ pos (k / moments_per_day))
days_counted k h = (omega (arith, signed_arith), omega (arith, signed_arith))

-- the day of a moment is one of ours
pub day-in-range : (n : ℤ) → IsMomentNumber n → IsDayNumber (day_of_moment n)
day-in-range n h = days_counted (moments_before n) (moments-counted n h).1

split_time : (t : ℕ) →
    time_number (t / moments_per_hour) (t % moments_per_hour / moments_per_minute)
    (t % moments_per_minute / moments_per_second) (t % moments_per_second) ≡ t
split_time t = omega arith

split_days : (k : ℕ) →
    pos moments_per_day *ℤ (first_day +ℤ pos (k / moments_per_day)) +ℤ pos (k % moments_per_day)
    ≡ first_moment +ℤ pos k
split_days k = omega (arith, signed_arith)

fraction_of_day : (k : ℕ) → k % moments_per_day % moments_per_second ≡ k % moments_per_second
fraction_of_day k = omega arith

-- a number is the number of its day and its time of day
parts-number : (n : ℤ) (t : ℕ) → IsMomentNumber n → moment_of_day n ≡ t →
    pos moments_per_day *ℤ day_of_moment n +ℤ
    pos (time_number (t / moments_per_hour) (t % moments_per_hour / moments_per_minute)
    (t % moments_per_minute / moments_per_second) (t % moments_per_second)) ≡ n
parts-number n t h e =
    rw (split_time t, ← e) (split_days (moments_before n) ∙ sym (moments-counted n h).0)

-- the texts of its day, of its time of day and of its fraction make its text
pub text-of-parts : (n : ℤ) → IsMomentNumber n → (date digits : List ℕ) →
    IsDayText (day_of_moment n) date → ShowsFraction digits (moment_of_second n) →
    IsMomentText n
    (date ++ codes " " ++ time_of_day_text (moment_of_day n) ++ fraction_text digits)
text-of-parts n h date digits is shows =
    let (y, m, d, there, number, text) = is in
    let k = moment_of_day n in
    let in_day : k < moments_per_day = omega arith in
    let hour = k / moments_per_hour in
    let minute = k % moments_per_hour / moments_per_minute in
    let second = k % moments_per_minute / moments_per_second in
    let same : k % moments_per_second ≡ moment_of_second n = fraction_of_day (moments_before n) in
    let parts : IsMoment y m d hour minute second (moment_of_second n) = record {
      date = there;
      hour = omega arith;
      minute = omega arith;
      second = omega arith;
      microsecond = omega arith;
    } in (
      y,
      m,
      d,
      hour,
      minute,
      second,
      moment_of_second n,
      digits,
      parts,
      rw (number, ← same) (parts-number n k h refl),
      shows,
      ap (λ (front : List ℕ). front ++ codes " " ++ time_of_day_text k ++ fraction_text digits) text,
    )

append_none : (x : List ℕ) → x ++ [] ≡ x
append_none [] = refl
append_none (a ∷ x) = ap (λ (rest : List ℕ). a ∷ rest) (append_none x)

no_digits_show : (us : ℕ) → us ≡ 0 → ShowsFraction [] us
no_digits_show us e = rw e record { few = omega arith; filled = refl }

six_digits_show : (us : ℕ) → ShowsFraction (six_digits us) us
six_digits_show us = record { few = omega arith; filled = refl }

written_show : (us : ℕ) (b : Bool) → (us == 0) ≡ b → ShowsFraction (cond b [] (six_digits us)) us
written_show us true e = no_digits_show us (grind (arith, nat_tests, e))
written_show us false e = six_digits_show us

-- the digits that are written of a fraction show it
pub written-show : (us : ℕ) → ShowsFraction (written_digits us) us
written-show us = written_show us (us == 0) refl

-- the text with all six digits, cut after the seconds if the fraction is zero, is the text that
-- is written
pub record Cut (n : ℤ) (len : ℕ) : Type 0 where
  pub long : len ≡ length (moment_text n)
  pub text : take len (full_moment_text n) ≡ moment_text n

cut_without : (n : ℤ) (len : ℕ) → (moment_of_second n == 0) ≡ true → len ≡ 19 → Cut n len
cut_without n len e is = rw is record { long = rw e refl; text = rw e refl }

cut_with : (n : ℤ) (len : ℕ) → (moment_of_second n == 0) ≡ false → len ≡ 26 → Cut n len
cut_with n len e is = rw is record { long = rw e refl; text = rw e refl }

pub cut-zero : (n : ℤ) (len k : ℕ) → k ≡ moment_of_second n → k ≡ 0 → len ≡ 19 → Cut n len
cut-zero n len k same zero is = cut_without n len (grind (arith, nat_tests, same, zero)) is

pub cut-other : (n : ℤ) (len k : ℕ) → k ≡ moment_of_second n → (k ≡ 0 → ⊥) → len ≡ 26 → Cut n len
cut-other n len k same other is = cut_with n len (grind (arith, nat_tests, same, other)) is

-- the text that is written is one of the moment
pub written-is-text : (n : ℤ) → IsMomentNumber n →
    IsDayText (day_of_moment n) (day_text (day_of_moment n)) → IsMomentText n (moment_text n)
written-is-text n h day =
    text-of-parts n h (day_text (day_of_moment n)) (written_digits (moment_of_second n))
    day (written-show (moment_of_second n))
