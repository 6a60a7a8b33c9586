-- The values that a row of a table may have.
use Rattle.std.specs.Prelude.{◌&&◌, ℕ, Bool, true, false, List, [], ◌∷◌, length, nat_le}
use Rattle.std.specs.Str.{chars}
use Rattle.period_core.specs.declared.value.Value.{Value}
use Rattle.period_core.specs.declared.value.Value.TheVariants as value
use Rattle.catalog_core.specs.table.TableWords.{value_columns}
use Rattle.catalog_core.specs.declared.table.Column.{Column}
use Rattle.catalog_core.specs.declared.table.ColumnKind.{ColumnKind}
use Rattle.catalog_core.specs.declared.table.ColumnKind.TheVariants as kind
use Rattle.catalog_core.specs.declared.table.TableDef.{TableDef}

-- the value is of the column's kind, and no longer than the column takes, in code points; a system
-- column takes none
abbrev pub is_of_column : ColumnKind → Value → Bool
is_of_column kind.Integer (value.Int n) = true
is_of_column (kind.Varchar most) (value.Text text) = nat_le (length (chars text)) most
is_of_column kind.Date (value.Date day) = true
is_of_column _ _ = false

-- a value for each of the columns
abbrev pub are_of_columns : List (ℕ × Column) → List Value → Bool
are_of_columns [] [] = true
are_of_columns [] (v ∷ values) = false
are_of_columns (column ∷ columns) [] = false
are_of_columns (column ∷ columns) (v ∷ values) =
    is_of_column column.1.kind v && are_of_columns columns values

-- a value for each of the table's value columns
abbrev pub are_row_values : TableDef → List Value → Bool
are_row_values table values = are_of_columns (value_columns table) values
