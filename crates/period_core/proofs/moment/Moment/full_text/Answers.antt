use Rattle.std.proofs.Common.{◌≡◌, ◌∙◌, ap, subst, arith, codes, ◌++◌, ◌∷◌, [], ℤ, ℕ, List, ◌+ℤ◌, ◌/◌, ◌%◌, ◌+◌, refl, to_z, of_z, w32, slice_index_or}
use Rattle.std.proofs.lemmas.Int.{to_z_pos}
use Rattle.period_core.specs.Calendar.{IsDayText, first_day}
use Rattle.period_core.specs.Moments.{IsMomentNumber, day_of_moment, fraction_text, moment_of_day, moment_of_second, moments_before, moments_per_day, moments_per_hour, moments_per_minute, moments_per_second, six_digits, time_of_day_text}
use Rattle.period_core.proofs.MomentFacts.{day-in-range, moments-counted}
use Rattle.period_core.proofs.CalendarFacts.{day-bits}
use Rattle.period_core.proofs.TextFacts.{text-of-date}
use Rattle.period_core.proofs.moment.Moment.full_text.Goals as goal

-- the number that the code hands to the day
day_is : (z : ℤ) → IsMomentNumber z →
    to_z w32 (of_z w32 (to_z w32 (moments_before z / moments_per_day) +ℤ first_day))
    ≡ day_of_moment z
day_is z h =
    let few = (moments-counted z h).1 in
    let days = to_z_pos w32 (moments_before z / moments_per_day) (omega (arith, few)) in
    rw days (day-bits (day_of_moment z) (day-in-range z h))

-- the bytes that the code writes
bytes_are : (n : ℤ) (date : List ℕ) (k us : ℕ) → IsDayText n date →
    slice_index_or date 0 0 ∷ slice_index_or date 1 0 ∷ slice_index_or date 2 0 ∷
    slice_index_or date 3 0 ∷ slice_index_or date 4 0 ∷ slice_index_or date 5 0 ∷
    slice_index_or date 6 0 ∷ slice_index_or date 7 0 ∷ slice_index_or date 8 0 ∷
    slice_index_or date 9 0 ∷ 32 ∷
    (48 + k / moments_per_hour / 10) ∷ (48 + k / moments_per_hour % 10) ∷ 58 ∷
    (48 + k % moments_per_hour / moments_per_minute / 10) ∷
    (48 + k % moments_per_hour / moments_per_minute % 10) ∷ 58 ∷
    (48 + k % moments_per_minute / moments_per_second / 10) ∷
    (48 + k % moments_per_minute / moments_per_second % 10) ∷ 46 ∷
    (48 + us / 10_000 / 10) ∷ (48 + us / 10_000 % 10) ∷
    (48 + us / 100 % 100 / 10) ∷ (48 + us / 100 % 100 % 10) ∷
    (48 + us % 100 / 10) ∷ (48 + us % 100 % 10) ∷ []
    ≡ date ++ codes " " ++ time_of_day_text k ++ fraction_text (six_digits us)
bytes_are n date k us is = rw is.5 refl

-- the bytes of the day are the bytes of its date
day_is_text : (c : goal.After-write_text) →
    (c.unwrap-day.result ≡ day_of_moment c.args.self)
    × IsDayText (day_of_moment c.args.self) c.write_text.new.text
day_is_text c =
    let n = c.args.self in
    let inv = c.count_before-before.ensures.in_range in
    let made = rw (c.unwrap-day.ensures, c.count_before-before.ensures.value) at c.new.ensures.value in
    let day : c.unwrap-day.result ≡ day_of_moment n = made ∙ day_is n inv in
    (day, rw day at c.write_text.ensures.date)

pub returns : goal.returns
returns c =
    let n = c.args.self in
    let date = c.write_text.new.text in
    let is = (day_is_text c).1 in
    let same = text-of-date (day_of_moment n) date is in
    let bytes = bytes_are (day_of_moment n) date (moment_of_day n) (moment_of_second n) is in
    let whole = λ (front : List ℕ). front ++ codes " " ++ time_of_day_text (moment_of_day n) ++ fraction_text (six_digits (moment_of_second n)) in
    record {
      text = rw c.count_before-before.ensures.value (bytes ∙ ap whole same);
      day = subst (IsDayText (day_of_moment n)) same is;
    }
