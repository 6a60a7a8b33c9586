-- The tests for what is wrong with literals, over the tokens from each place on.
use Rattle.std.specs.Prelude.{◌||◌, ◌&&◌, ◌+◌, ◌-◌, ◌*◌, ◌≤◌, ℕ, ℤ, Bool, false, cond, nat_lt, List}
use Rattle.std.specs.Prelude.{is_none, [], ◌∷◌, Option, Some, None, codes}
use Rattle.sql_statements.specs.Lexemes.{Lexeme}
use Rattle.sql_front.specs.Language.{keyword, symbol, number, text, or_test}
use Rattle.sql_front.specs.LiteralValues.{number_of_digits}
use Rattle.period_core.specs.Encoding.{greatest_number}
use Rattle.sql_front.specs.reading.LeafValues.{clock_of_token, day_of_token, moment_of_token}

-- the test holds of some token and those after it
abbrev pub somewhere : (Lexeme → List Lexeme → Bool) → List Lexeme → Bool
somewhere test [] = false
somewhere test (t ∷ rest) = test t rest || somewhere test rest

-- the text after this word
abbrev pub text_after : List ℕ → Lexeme → List Lexeme → Option (List ℕ)
text_after word t [] = None
text_after word t (u ∷ rest) = cond (text u && keyword word t) (Some u.text) None

-- there is a text, and nothing is read of it
abbrev pub names_none : (List ℕ → Option ℤ) → Option (List ℕ) → Bool
names_none read None = false
names_none read (Some token) = is_none (read token)

-- a keyword, then a text of which nothing is read
abbrev pub is_unread : List ℕ → (List ℕ → Option ℤ) → Lexeme → List Lexeme → Bool
is_unread word read t rest = names_none read (text_after word t rest)

-- DATE, then a text that names no day
abbrev pub is_bad_date : Lexeme → List Lexeme → Bool
is_bad_date = is_unread (codes "DATE") day_of_token

-- TIMESTAMP, then a text that names no moment
abbrev pub is_no_moment : Lexeme → List Lexeme → Bool
is_no_moment = is_unread (codes "TIMESTAMP") moment_of_token

-- AT or OF, then TIMESTAMP, then a text that names no moment before the open end
abbrev pub is_open_end : Lexeme → List Lexeme → Bool
is_open_end t [] = false
is_open_end t (u ∷ rest) =
    is_unread (codes "TIMESTAMP") clock_of_token u rest
    && or_test (keyword (codes "AT")) (keyword (codes "OF")) t

-- either of the two
abbrev pub is_bad_moment : Lexeme → List Lexeme → Bool
is_bad_moment t rest = is_no_moment t rest || is_open_end t rest

-- a number above the limit that a minus before it or none sets
abbrev pub is_above : Bool → Lexeme → Bool
is_above minus t =
    number t
    && nat_lt (cond minus (greatest_number + 1) greatest_number) (number_of_digits t.text)

-- some number is, if a minus or none precedes the tokens
abbrev pub number_above : Bool → List Lexeme → Bool
number_above minus [] = false
number_above minus (t ∷ rest) = is_above minus t || number_above (symbol (codes "-") t) rest

-- ---- dates that are days whatever the calendar

-- the byte of an ASCII digit
abbrev pub IsDigit : ℕ → Type 0
IsDigit byte = (48 ≤ byte) × (byte ≤ 57)

-- the digits of a year from 1000 on
abbrev pub IsLateYear : ℕ → ℕ → ℕ → ℕ → Type 0
IsLateYear first second third fourth =
    (49 ≤ first) × (first ≤ 57) × IsDigit second × IsDigit third × IsDigit fourth

-- the digits of a number from 1 to a greatest one
abbrev pub AreDigitsWithin : ℕ → ℕ → ℕ → Type 0
AreDigitsWithin greatest tens ones =
    IsDigit tens × IsDigit ones
    × (1 ≤ (tens - 48) * 10 + (ones - 48)) × ((tens - 48) * 10 + (ones - 48) ≤ greatest)
