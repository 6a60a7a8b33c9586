-- The values of numbers, dates and moments as they are read of their tokens.
-- For a literal that names no value 0, the first day or the first moment stands in. A statement
-- with such a literal is refused.
use Rattle.std.specs.Prelude.{ℕ, ℤ, pos, neg_ℤ, ◌+◌, cond, nat_lt, int_lt, List, Option, Some, None}
use Rattle.period_core.specs.Calendar.{first_day}
use Rattle.period_core.specs.Moments.{first_moment, forever}
use Rattle.period_core.specs.TextReading.{◌>>=◌, day_of_text, moment_of_text}
use Rattle.sql_front.specs.LiteralValues.{between_quotes, number_of_digits}
use Rattle.period_core.specs.Encoding.{greatest_number}

-- a number over the limit is read as 0
abbrev pub up_to : ℕ → ℕ → ℕ
up_to limit value = cond (nat_lt limit value) 0 value

-- a number without a sign, or with a plus
abbrev pub number_value : List ℕ → ℕ
number_value digits = up_to greatest_number (number_of_digits digits)

-- a number with a minus: one more below than above
abbrev pub negative_value : List ℕ → ℤ
negative_value digits = neg_ℤ (pos (up_to (greatest_number + 1) (number_of_digits digits)))

-- the day that the text between a token's quotes shows
unfoldable pub day_of_token : List ℕ → Option ℤ
day_of_token token = day_of_text (between_quotes token)

-- the moment that the text between a token's quotes shows
unfoldable pub moment_of_token : List ℕ → Option ℤ
moment_of_token token = moment_of_text (between_quotes token)

-- the moment before the open end that a token names
unfoldable pub clock_of_token : List ℕ → Option ℤ
clock_of_token token = moment_of_token token >>= λ m. cond (int_lt m forever) (Some m) None

-- the value of an option, or else the given one
abbrev pub or_else : Option ℤ → ℤ → ℤ
or_else (Some n) other = n
or_else None other = other

-- a day, or the stand-in
unfoldable pub day_value : List ℕ → ℤ
day_value token = or_else (day_of_token token) first_day

-- a moment, or the stand-in
unfoldable pub moment_value : List ℕ → ℤ
moment_value token = or_else (moment_of_token token) first_moment

-- a moment before the open end, or the stand-in
unfoldable pub clock_value : List ℕ → ℤ
clock_value token = or_else (clock_of_token token) first_moment
