-- Moments: whole microseconds from 0001-01-01 00:00:00 to 9999-12-31 23:59:59.999999, their numbers
-- and texts.
use Rattle.std.specs.Prelude.{◌≡◌, ◌==◌, ◌≤◌, ◌+◌, ◌-◌, ◌*◌, ◌/◌, ◌%◌, ℕ, ℤ, pos, neg_ℤ}
use Rattle.std.specs.Prelude.{unsigned_abs, ◌+ℤ◌, ◌-ℤ◌, ◌*ℤ◌, ◌≤ℤ◌, int_lt, Option, Some, None}
use Rattle.std.specs.Prelude.{if◌then◌else◌, List, [], ◌∷◌, ◌++◌, codes, length, replicate}
use Rattle.period_core.specs.Calendar.{IsDate, first_day, day_number, day_text, date_text}
use Rattle.period_core.specs.Calendar.{two_digits}

-- the number of 0001-01-01 00:00:00, the least
abbrev pub first_moment : ℤ
first_moment = neg_ℤ (pos 62_135_596_800_000_000)

-- the number of 9999-12-31 23:59:59.999999, the greatest: FOREVER, the open end
abbrev pub forever : ℤ
forever = pos 253_402_300_799_999_999

-- the moment exists: a date, hours to 23, minutes and seconds to 59, microseconds to 999,999
pub record IsMoment (y m d h mi s us : ℕ) : Type 0 where
  pub date : IsDate y m d
  pub hour : h ≤ 23
  pub minute : mi ≤ 59
  pub second : s ≤ 59
  pub microsecond : us ≤ 999_999

-- the unit: a moment is a whole microsecond
abbrev pub moments_per_second : ℕ
moments_per_second = 1_000_000

-- the moments of a minute
abbrev pub moments_per_minute : ℕ
moments_per_minute = 60 * moments_per_second

-- the moments of an hour
abbrev pub moments_per_hour : ℕ
moments_per_hour = 60 * moments_per_minute

-- the moments of a day
abbrev pub moments_per_day : ℕ
moments_per_day = 24 * moments_per_hour

-- the number of moments of its day that come before a time of day
abbrev pub time_number : ℕ → ℕ → ℕ → ℕ → ℕ
time_number h mi s us =
    moments_per_hour * h + moments_per_minute * mi + moments_per_second * s + us

-- the number of a moment, counted from 1970-01-01 00:00:00
abbrev pub moment_number : ℕ → ℕ → ℕ → ℕ → ℕ → ℕ → ℕ → ℤ
moment_number y m d h mi s us =
    pos moments_per_day *ℤ day_number y m d +ℤ pos (time_number h mi s us)

-- the numbers of the first moment and of FOREVER are the least and the greatest
abbrev pub IsMomentNumber : ℤ → Type 0
IsMomentNumber n = (first_moment ≤ℤ n) × (n ≤ℤ forever)

-- the moment before, which the first has not
abbrev pub moment_before : ℤ → Option ℤ
moment_before n = if int_lt first_moment n then Some (n -ℤ pos 1) else None

-- the moment after, which FOREVER has not
abbrev pub moment_after : ℤ → Option ℤ
moment_after n = if int_lt n forever then Some (n +ℤ pos 1) else None

-- HH:MM:SS, in ASCII
abbrev pub time_text : ℕ → ℕ → ℕ → List ℕ
time_text h mi s = two_digits h ++ codes ":" ++ two_digits mi ++ codes ":" ++ two_digits s

-- YYYY-MM-DD HH:MM:SS, in ASCII
abbrev pub date_time_text : ℕ → ℕ → ℕ → ℕ → ℕ → ℕ → List ℕ
date_time_text y m d h mi s = date_text y m d ++ codes " " ++ time_text h mi s

-- the six digits of a number of microseconds, in ASCII
abbrev pub six_digits : ℕ → List ℕ
six_digits us = two_digits (us / 10_000) ++ two_digits (us / 100 % 100) ++ two_digits (us % 100)

-- digits of a fraction of a second show `us` microseconds: they are six at the most, and filled on
-- the right with zeros they are the six digits of `us`
pub record ShowsFraction (digits : List ℕ) (us : ℕ) : Type 0 where
  pub few : length digits ≤ 6
  pub filled : digits ++ replicate (6 - length digits) 48 ≡ six_digits us

-- a point and the digits, if there are any
abbrev pub fraction_text : List ℕ → List ℕ
fraction_text [] = []
fraction_text (digit ∷ more) = codes "." ++ digit ∷ more

-- a text of the moment that has this number, as it is read: one without a fraction, if that is
-- zero, or one with a point and one to six digits
abbrev pub IsMomentText : ℤ → List ℕ → Type 0
IsMomentText n text =
    (y : ℕ) × (m : ℕ) × (d : ℕ) × (h : ℕ) × (mi : ℕ) × (s : ℕ) × (us : ℕ) × (digits : List ℕ) ×
    IsMoment y m d h mi s us × (moment_number y m d h mi s us ≡ n) × ShowsFraction digits us ×
    (text ≡ date_time_text y m d h mi s ++ fraction_text digits)

-- the number of moments that come before the moment with this number
abbrev pub moments_before : ℤ → ℕ
moments_before n = unsigned_abs (n -ℤ first_moment)

-- the number of its day
abbrev pub day_of_moment : ℤ → ℤ
day_of_moment n = first_day +ℤ pos (moments_before n / moments_per_day)

-- the number of moments of its day that come before the moment with this number
abbrev pub moment_of_day : ℤ → ℕ
moment_of_day n = moments_before n % moments_per_day

-- the number of moments of its second that come before the moment with this number
abbrev pub moment_of_second : ℤ → ℕ
moment_of_second n = moments_before n % moments_per_second

-- the text of the time of day before which `k` moments of the day come, without its fraction
abbrev pub time_of_day_text : ℕ → List ℕ
time_of_day_text k =
    time_text (k / moments_per_hour) (k % moments_per_hour / moments_per_minute)
    (k % moments_per_minute / moments_per_second)

-- the text of the second in which the moment with this number lies
abbrev pub second_text : ℤ → List ℕ
second_text n = day_text (day_of_moment n) ++ codes " " ++ time_of_day_text (moment_of_day n)

-- the digits that are written of a fraction of a second: none if it is zero, else all six
abbrev pub written_digits : ℕ → List ℕ
written_digits us = if us == 0 then [] else six_digits us

-- the text of the moment with this number, as it is written
abbrev pub moment_text : ℤ → List ℕ
moment_text n = second_text n ++ fraction_text (written_digits (moment_of_second n))

-- the text of a moment with all six digits, whatever the fraction
abbrev pub full_moment_text : ℤ → List ℕ
full_moment_text n = second_text n ++ fraction_text (six_digits (moment_of_second n))
