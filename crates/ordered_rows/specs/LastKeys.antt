-- The last of rows in order, by which the place of one after it is known.
use Rattle.std.specs.Prelude.{◌≡◌, ◌++◌, List, [], ◌∷◌}
use Rattle.std.specs.declared.cmp.Ordering.{Ordering}
use Rattle.std.specs.declared.cmp.Ordering.TheVariants.{Less}
use Rattle.sqlite_value.specs.Order.{Row}
use Rattle.ordered_rows.specs.AbbreviatedKeys.{IsAbbreviationOf}
use Rattle.ordered_rows.specs.declared.abbreviated_key.AbbreviatedKey.{AbbreviatedKey}

-- the key is that of the last row
pub record IsLastKey (rows : List Row) (key : AbbreviatedKey) : Type 0 where
  pub before : List Row
  pub row : Row
  pub is : rows ≡ before ++ row ∷ []
  pub abbreviates : IsAbbreviationOf key row

-- there is a last row, and it is below the place
pub record EndBelow (side : Row → Ordering) (rows : List Row) : Type 0 where
  pub before : List Row
  pub row : Row
  pub is : rows ≡ before ++ row ∷ []
  pub below : side row ≡ Less
