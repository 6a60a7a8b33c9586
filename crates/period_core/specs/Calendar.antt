-- Dates of ISO 8601's proleptic Gregorian calendar, years 1 to 9999: their numbers and texts.
use Rattle.std.specs.Prelude.{nat_lt, zero, suc, unsigned_abs, ◌+ℤ◌, ◌≡◌, ◌≤◌, ◌==◌, ◌+◌, ◌-◌, ◌*◌}
use Rattle.std.specs.Prelude.{◌/◌, ◌%◌, ◌&&◌, ◌||◌, Bool, not, ℕ, ℤ, pos, neg_ℤ, ◌-ℤ◌, ◌≤ℤ◌, List}
use Rattle.std.specs.Prelude.{[], ◌∷◌, ◌++◌, Option, Some, None, sum, take, get_or, if◌then◌else◌}
use Rattle.std.specs.Ordering.{int_cmp, is_lt}

-- a multiple of 4 that is not one of 100, or a multiple of 400
abbrev pub is_leap_year : ℕ → Bool
is_leap_year y = ((y % 4 == 0) && not (y % 100 == 0)) || (y % 400 == 0)

-- the days of each month of the year, January first
abbrev pub month_lengths : ℕ → List ℕ
month_lengths y =
    31 ∷ (if is_leap_year y then 29 else 28) ∷
    31 ∷ 30 ∷ 31 ∷ 30 ∷ 31 ∷ 31 ∷ 30 ∷ 31 ∷ 30 ∷ 31 ∷ []

-- the days of a month from 1 to 12
abbrev pub month_length : ℕ → ℕ → ℕ
month_length y m = get_or (month_lengths y) (m - 1) 0

-- the days of the year before the month
abbrev pub days_before : ℕ → ℕ → ℕ
days_before y m = sum (take (m - 1) (month_lengths y))

-- the date exists, in the years 1 to 9999
pub record IsDate (y m d : ℕ) : Type 0 where
  pub year : (1 ≤ y) × (y ≤ 9999)
  pub month : (1 ≤ m) × (m ≤ 12)
  pub day : (1 ≤ d) × (d ≤ month_length y m)

-- the days of the first n years
abbrev pub days_of_years : ℕ → ℕ
days_of_years n = 365 * n + n / 4 - n / 100 + n / 400

-- the number of a date, counted from 1970-01-01
abbrev pub day_number : ℕ → ℕ → ℕ → ℤ
day_number y m d = pos (days_of_years (y - 1) + days_before y m + d) -ℤ pos 719_163

-- the number of 0001-01-01, the least
abbrev pub first_day : ℤ
first_day = neg_ℤ (pos 719_162)

-- the number of 9999-12-31, the greatest
abbrev pub last_day : ℤ
last_day = pos 2_932_896

-- the numbers of the first day and of the last are the least and the greatest
abbrev pub IsDayNumber : ℤ → Type 0
IsDayNumber n = (first_day ≤ℤ n) × (n ≤ℤ last_day)

-- the day before, which 0001-01-01 has not
abbrev pub day_before : ℤ → Option ℤ
day_before n = if is_lt (int_cmp first_day n) then Some (n -ℤ pos 1) else None

-- the day after, which 9999-12-31 has not
abbrev pub day_after : ℤ → Option ℤ
day_after n = if is_lt (int_cmp n last_day) then Some (n +ℤ pos 1) else None

-- the digits of a number below 100, in ASCII
abbrev pub two_digits : ℕ → List ℕ
two_digits n = (48 + n / 10) ∷ (48 + n % 10) ∷ []

-- YYYY-MM-DD, in ASCII
abbrev pub date_text : ℕ → ℕ → ℕ → List ℕ
date_text y m d =
    two_digits (y / 100) ++ two_digits (y % 100) ++
    45 ∷ [] ++ two_digits m ++ 45 ∷ [] ++ two_digits d

-- the text of the date that has this number
abbrev pub IsDayText : ℤ → List ℕ → Type 0
IsDayText n text =
    (y : ℕ) × (m : ℕ) × (d : ℕ) ×
    IsDate y m d × (day_number y m d ≡ n) × (text ≡ date_text y m d)

-- the number of the numbers below a bound that pass the test
unfoldable pub count_below : (ℕ → Bool) → ℕ → ℕ
count_below test zero = 0
count_below test (suc k) = count_below test k + (if test k then 1 else 0)

-- the days from 0001-01-01 to the day, both counted
abbrev pub serial_of : ℤ → ℕ
serial_of n = unsigned_abs (n +ℤ pos 719_163)

-- the number of years that have begun by the day with this serial number
abbrev pub years_begun : ℕ → ℕ
years_begun s = count_below (λ k. nat_lt (days_of_years k) s) 9999

-- the year of the day with this number
abbrev pub year_of : ℤ → ℕ
year_of n = years_begun (serial_of n)

-- the number of days of its year that have begun by the day with this number
abbrev pub day_in_year : ℤ → ℕ
day_in_year n = serial_of n - days_of_years (year_of n - 1)

-- the number of months of the year that have begun by its r-th day
abbrev pub months_begun : ℕ → ℕ → ℕ
months_begun y r = count_below (λ k. nat_lt (days_before y (k + 1)) r) 12

-- the month of the day with this number
abbrev pub month_of : ℤ → ℕ
month_of n = months_begun (year_of n) (day_in_year n)

-- the day in its month
abbrev pub day_of : ℤ → ℕ
day_of n = day_in_year n - days_before (year_of n) (month_of n)

-- the text of the day with this number
abbrev pub day_text : ℤ → List ℕ
day_text n = date_text (year_of n) (month_of n) (day_of n)
