-- The day and the moment that a text shows, as they are read from it, place by place.
use Rattle.std.specs.Prelude.{ℕ, ℤ, ◌+◌, ◌-◌, ◌*◌, ◌==◌, ◌&&◌, Bool, cond, nat_lt, nat_le, List}
use Rattle.std.specs.Prelude.{length, slice_index, slice_index_or, Option, Some, None}
use Rattle.std.specs.Prelude.{option_and_then}
use Rattle.period_core.specs.Calendar.{day_number, month_length}
use Rattle.period_core.specs.Moments.{moment_number}

-- continues with the value if there is one; `do` uses it
infixl 10 ◌>>=◌
abbrev pub ◌>>=◌ : {A B : Type 0} → Option A → (A → Option B) → Option B
o >>= f = option_and_then f o

-- the value of an ASCII digit
abbrev pub digit_of : ℕ → Option ℕ
digit_of byte = cond (nat_lt byte 48) None (cond (nat_lt 57 byte) None (Some (byte - 48)))

-- the number of two digits
abbrev pub two_of : ℕ → ℕ → Option ℕ
two_of tens ones = do
  t ← digit_of tens
  o ← digit_of ones
  Some (t * 10 + o)

-- the three numbers of a date, of whatever size
unfoldable pub date_parts_of : ℕ → ℕ → ℕ → ℕ → ℕ → ℕ → ℕ → ℕ → Option (ℕ × ℕ × ℕ)
date_parts_of a b c d e f g h = do
  century ← two_of a b
  year ← two_of c d
  month ← two_of e f
  day ← two_of g h
  Some (century * 100 + year, month, day)

-- the year, the month and the day of a text that begins as YYYY-MM-DD
unfoldable pub date_at : List ℕ → Option (ℕ × ℕ × ℕ)
date_at text =
    cond (slice_index text 4 == 45) (cond (slice_index text 7 == 45)
    (date_parts_of
    (slice_index text 0) (slice_index text 1) (slice_index text 2) (slice_index text 3)
    (slice_index text 5) (slice_index text 6) (slice_index text 8) (slice_index text 9))
    None) None

-- the three numbers of a time of day, of whatever size
unfoldable pub time_parts_of : ℕ → ℕ → ℕ → ℕ → ℕ → ℕ → Option (ℕ × ℕ × ℕ)
time_parts_of a b c d e f = do
  hour ← two_of a b
  minute ← two_of c d
  second ← two_of e f
  Some (hour, minute, second)

-- the hour, the minute and the second of a text that has HH:MM:SS from its twelfth byte on
unfoldable pub time_at : List ℕ → Option (ℕ × ℕ × ℕ)
time_at text =
    cond (slice_index text 13 == 58) (cond (slice_index text 16 == 58)
    (time_parts_of (slice_index text 11) (slice_index text 12) (slice_index text 14)
    (slice_index text 15) (slice_index text 17) (slice_index text 18))
    None) None

-- the number of six digits
unfoldable pub six_of : ℕ → ℕ → ℕ → ℕ → ℕ → ℕ → Option ℕ
six_of a b c d e f = do
  high ← two_of a b
  middle ← two_of c d
  low ← two_of e f
  Some (high * 10_000 + middle * 100 + low)

-- the byte of a text at a place, or the digit 0 past its end
abbrev pub digit_at : List ℕ → ℕ → ℕ
digit_at text place = slice_index_or text place 48

-- the microseconds of a text that ends with its nineteenth byte, or has a point and one to six
-- digits after it
unfoldable pub fraction_at : List ℕ → Option ℕ
fraction_at text =
    cond (length text == 19) (Some 0)
    (cond (slice_index text 19 == 46) (cond (nat_lt 20 (length text) && nat_le (length text) 26)
    (six_of (digit_at text 20) (digit_at text 21) (digit_at text 22)
    (digit_at text 23) (digit_at text 24) (digit_at text 25))
    None) None)

-- the date exists, from the year 1 to 9999
unfoldable pub is_date : ℕ → ℕ → ℕ → Bool
is_date year month day =
    nat_le 1 year && (nat_le year 9999 && (nat_le 1 month && (nat_le month 12 &&
    (nat_le 1 day && nat_le day (month_length year month)))))

-- the time of day exists
unfoldable pub is_time : ℕ → ℕ → ℕ → ℕ → Bool
is_time hour minute second microsecond =
    nat_le hour 23 && (nat_le minute 59 && (nat_le second 59 && nat_le microsecond 999_999))

-- the number of a date, if there is one
abbrev pub number_of_date : ℕ × ℕ × ℕ → Option ℤ
number_of_date (year, month, day) =
    cond (is_date year month day) (Some (day_number year month day)) None

-- the day that a text of ten bytes shows
unfoldable pub day_of_text : List ℕ → Option ℤ
day_of_text text = cond (length text == 10) (date_at text >>= number_of_date) None

-- the number of a moment, if there is one
abbrev pub number_of_moment : ℕ × ℕ × ℕ → ℕ × ℕ × ℕ → ℕ → Option ℤ
number_of_moment (year, month, day) (hour, minute, second) microsecond =
    cond (is_date year month day && is_time hour minute second microsecond)
    (Some (moment_number year month day hour minute second microsecond)) None

-- the moment that a text of nineteen bytes or more shows
unfoldable pub moment_of_text : List ℕ → Option ℤ
moment_of_text text =
    cond (nat_lt 18 (length text)) (cond (slice_index text 10 == 32)
    (date_at text >>= λ date. time_at text >>= λ time. fraction_at text >>= λ fraction.
    number_of_moment date time fraction)
    None) None
