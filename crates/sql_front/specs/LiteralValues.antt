-- The values that the texts of tokens name.
use Rattle.std.specs.Prelude.{◌≡◌, ◌≤◌, ◌<ℤ◌, ℕ, ℤ, pos, neg_ℤ, ◌+◌, ◌-◌, ◌*◌, ◌==◌, Bool, cond}
use Rattle.std.specs.Prelude.{List, [], ◌∷◌, take, drop, length}
use Rattle.period_core.specs.Calendar.{IsDayText}
use Rattle.period_core.specs.Encoding.{greatest_number}
use Rattle.period_core.specs.Moments.{IsMomentText, forever}

-- ---- numbers

-- the number of digits after earlier ones, which have this value
abbrev pub number_of_digits_after : ℕ → List ℕ → ℕ
number_of_digits_after value [] = value
number_of_digits_after value (byte ∷ bytes) =
    number_of_digits_after (value * 10 + (byte - 48)) bytes

-- the number that digits write
abbrev pub number_of_digits : List ℕ → ℕ
number_of_digits digits = number_of_digits_after 0 digits

-- a number without a sign, or with a plus: at most the greatest of 64 bits signed
abbrev pub NamesNumber : List ℕ → ℕ → Type 0
NamesNumber digits value = (value ≡ number_of_digits digits) × (value ≤ greatest_number)

-- a number after a minus: one more below zero than above
abbrev pub NamesNegative : List ℕ → ℤ → Type 0
NamesNegative digits value =
    (value ≡ neg_ℤ (pos (number_of_digits digits)))
    × (number_of_digits digits ≤ greatest_number + 1)

-- ---- texts

-- the byte of a quote
abbrev pub is_quote : ℕ → Bool
is_quote byte = byte == 39

-- the bytes after the first quote
abbrev pub rest_after_quote : List ℕ → List ℕ
rest_after_quote [] = []
rest_after_quote (byte ∷ rest) = cond (is_quote byte) rest (rest_after_quote rest)

-- the bytes before a quote that no quote follows, with one quote for each two
abbrev mutual
  pub unquoted : List ℕ → List ℕ
  unquoted [] = []
  unquoted (byte ∷ rest) = cond (is_quote byte) (after_quote rest) (byte ∷ unquoted rest)

  -- the bytes after a quote that has just been read
  pub after_quote : List ℕ → List ℕ
  after_quote [] = []
  after_quote (byte ∷ rest) = cond (is_quote byte) (39 ∷ unquoted rest) []

-- the value of a text token: what is between its first quote and its last, with one quote for each
-- two
abbrev pub text_value : List ℕ → List ℕ
text_value token = unquoted (rest_after_quote token)

-- ---- dates and moments

-- a token without its first byte and its last
abbrev pub between_quotes : List ℕ → List ℕ
between_quotes token = take (length token - 2) (drop 1 token)

-- the token's text is YYYY-MM-DD of this day, from 0001-01-01 to 9999-12-31
abbrev pub NamesDay : List ℕ → ℤ → Type 0
NamesDay token day = IsDayText day (between_quotes token)

-- the token's text is one of this moment, from the first to the open end: YYYY-MM-DD HH:MM:SS, with
-- a point and one to six digits or without
abbrev pub NamesMoment : List ℕ → ℤ → Type 0
NamesMoment token moment = IsMomentText moment (between_quotes token)

-- a moment that a text names, before the open end
abbrev pub NamesClockMoment : List ℕ → ℤ → Type 0
NamesClockMoment token moment = NamesMoment token moment × (moment <ℤ forever)

-- the token's text is a day's
abbrev pub IsDateToken : List ℕ → Type 0
IsDateToken token = (day : ℤ) × NamesDay token day

-- the token's text is a moment's
abbrev pub IsMomentToken : List ℕ → Type 0
IsMomentToken token = (moment : ℤ) × NamesMoment token moment

-- the token's text is a moment's before the open end
abbrev pub IsClockToken : List ℕ → Type 0
IsClockToken token = (moment : ℤ) × NamesClockMoment token moment
