-- The depth of parentheses.
use Rattle.std.specs.Prelude.{◌≡◌, ℕ, zero, suc, ◌+◌, ◌<◌, Bool, cond, List, [], ◌∷◌, ◌++◌, Option}
use Rattle.std.specs.Prelude.{◌||◌, Some, None, is_none, codes}
use Rattle.sql_statements.specs.Lexemes.{Lexeme}
use Rattle.sql_front.specs.Language.{symbol}
use Rattle.sql_front.specs.declared.depth.Room.{Room}

-- an opening parenthesis
abbrev pub opens : Lexeme → Bool
opens = symbol (codes "(")

-- a closing parenthesis
abbrev pub closes : Lexeme → Bool
closes = symbol (codes ")")

-- the number of tokens that pass a test
abbrev pub passing_count : (Lexeme → Bool) → List Lexeme → ℕ
passing_count test [] = 0
passing_count test (t ∷ ts) = cond (test t) (suc (passing_count test ts)) (passing_count test ts)

-- the greatest number of parentheses that may be open
abbrev pub most_open : ℕ
most_open = 32

-- the tokens up to some place have over n more opening parentheses than closing ones
abbrev pub IsDeeper : ℕ → List Lexeme → Type 0
IsDeeper n lexemes =
    (front : List Lexeme) × (rest : List Lexeme) × (lexemes ≡ front ++ rest)
    × (n + passing_count closes front < passing_count opens front)

-- the number of parentheses that may still open after these tokens, of `k` that may open before
-- them
unfoldable pub room : ℕ → List Lexeme → Option ℕ
room k [] = Some k
room zero (t ∷ ts) = cond (opens t) None (cond (closes t) (room 1 ts) (room zero ts))
room (suc k) (t ∷ ts) =
    cond (opens t) (room k ts) (cond (closes t) (room (suc (suc k)) ts) (room (suc k) ts))

-- the room is exceeded already, or is by these tokens
abbrev pub is_too_small : Room → List Lexeme → Bool
is_too_small r tokens = r.is_exceeded || is_none (room r.left tokens)
