-- Faults of the literals of a piece. A date is a text after the word DATE, a moment is
-- one after TIMESTAMP, and a number counts with the minus before it.
use Rattle.std.specs.Prelude.{◌≡◌, ◌<◌, ◌⊎◌, ◌+◌, ℕ, Bool, true, false, cond, List, [], ◌∷◌, ◌++◌}
use Rattle.std.specs.Prelude.{codes}
use Rattle.sql_statements.specs.Lexemes.{Lexeme}
use Rattle.sql_front.specs.Language.{keyword, symbol, number, text, or_test}
use Rattle.sql_front.specs.LiteralValues.{IsClockToken, IsDateToken, IsMomentToken}
use Rattle.sql_front.specs.LiteralValues.{number_of_digits}
use Rattle.period_core.specs.Encoding.{greatest_number}

-- two tokens, the second right after the first
abbrev pub Neighbours : (Lexeme → Lexeme → Type 0) → List Lexeme → Type 0
Neighbours P lexemes =
    (front : List Lexeme) × (one : Lexeme) × (next : Lexeme) × (rest : List Lexeme)
    × (lexemes ≡ front ++ one ∷ next ∷ rest) × P one next

-- some DATE names no day from 0001-01-01 to 9999-12-31
abbrev pub HasBadDate : List Lexeme → Type 0
HasBadDate = Neighbours (λ word token.
    (keyword (codes "DATE") word ≡ true) × (text token ≡ true) × (IsDateToken token.text → ⊥))

-- some TIMESTAMP names no moment from the first to the open end
abbrev pub HasNoMoment : List Lexeme → Type 0
HasNoMoment = Neighbours (λ word token.
    (keyword (codes "TIMESTAMP") word ≡ true) × (text token ≡ true)
    × (IsMomentToken token.text → ⊥))

-- some TIMESTAMP after AT or OF names no moment before the open end
abbrev pub HasOpenEnd : List Lexeme → Type 0
HasOpenEnd lexemes =
    (front : List Lexeme) × (before : Lexeme) × (word : Lexeme) × (token : Lexeme)
    × (rest : List Lexeme)
    × (lexemes ≡ front ++ before ∷ word ∷ token ∷ rest)
    × (or_test (keyword (codes "AT")) (keyword (codes "OF")) before ≡ true)
    × (keyword (codes "TIMESTAMP") word ≡ true) × (text token ≡ true)
    × (IsClockToken token.text → ⊥)

-- some moment is bad
abbrev pub HasBadMoment : List Lexeme → Type 0
HasBadMoment lexemes = HasNoMoment lexemes ⊎ HasOpenEnd lexemes

-- the last of the tokens is a minus
abbrev pub ends_in_minus : List Lexeme → Bool
ends_in_minus [] = false
ends_in_minus (t ∷ []) = symbol (codes "-") t
ends_in_minus (t ∷ u ∷ more) = ends_in_minus (u ∷ more)

-- the greatest value that digits after these tokens may have, for a number of 64 bits signed
abbrev pub limit_after : List Lexeme → ℕ
limit_after front = cond (ends_in_minus front) (greatest_number + 1) greatest_number

-- some number, with its sign, is outside 64 bits signed
abbrev pub HasNumberOutside : List Lexeme → Type 0
HasNumberOutside lexemes =
    (front : List Lexeme) × (token : Lexeme) × (rest : List Lexeme)
    × (lexemes ≡ front ++ token ∷ rest)
    × (number token ≡ true) × (limit_after front < number_of_digits token.text)
