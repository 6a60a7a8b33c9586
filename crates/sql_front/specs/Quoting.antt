-- The rest of a text token as its value is made.
use Rattle.std.specs.Prelude.{ℕ, suc, length, List, [], ◌∷◌, Option, Some, None}
use Rattle.std.specs.Borrow.{Bor}
use Rattle.sql_front.specs.LiteralValues.{unquoted}

-- the bytes that the rest of a text adds to its value: none, or a quote and those after it
abbrev pub continued : Option (Bor (List ℕ)) → List ℕ
continued None = []
continued (Some more) = 39 ∷ unquoted more.now

-- the length of the rest of a text
abbrev pub left_over : Option (Bor (List ℕ)) → ℕ
left_over None = 0
left_over (Some more) = suc (length more.now)
