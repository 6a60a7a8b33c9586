-- The rows that a cursor gives.
use Rattle.std.specs.Prelude.{◌≡◌, ℕ, Bool, true, false, List, [], ◌∷◌, drop, reverse, take}
use Rattle.sqlite_value.specs.Order.{Row}
use Rattle.sqlite_trees.specs.declared.store.Direction.{Direction}
use Rattle.sqlite_trees.specs.declared.store.Direction.TheVariants.{Forward, Backward}
use Rattle.ordered_rows.specs.declared.cursor.RowCursor.{RowCursor}

-- the rows that are left from a number on, in a direction
abbrev pub left_from : Direction → ℕ → List Row → List Row
left_from Forward at rows = drop at rows
left_from Backward at rows = reverse (take at rows)

-- the rows that a cursor has still to give
abbrev pub left : RowCursor → List Row → List Row
left c = left_from c.direction c.at

-- the first of the rows that were left, or none was left
abbrev pub Gives : List Row → List Row → Row → Bool → Type 0
Gives old new row true = old ≡ row ∷ new
Gives old new row false = (old ≡ []) × (new ≡ [])
