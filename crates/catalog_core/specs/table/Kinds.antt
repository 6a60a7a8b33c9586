-- The kinds of columns and values.
use Rattle.std.specs.Prelude.{Bool, true, false, not, Option, Some}
use Rattle.period_core.specs.declared.value.Value.{Value}
use Rattle.period_core.specs.declared.value.Value.TheVariants as value
use Rattle.catalog_core.specs.declared.table.ColumnKind.{ColumnKind}
use Rattle.catalog_core.specs.declared.table.ColumnKind.TheVariants as kind
use Rattle.catalog_core.specs.declared.table.ValueKind.{ValueKind}
use Rattle.catalog_core.specs.declared.table.ValueKind.TheVariants.{Integer, Text, Date, Moment}

-- the kind of a value
abbrev pub kind_of_value : Value → ValueKind
kind_of_value (value.Int n) = Integer
kind_of_value (value.Text t) = Text
kind_of_value (value.Date d) = Date

-- the kind of a column
unfoldable pub kind_of_column : ColumnKind → ValueKind
kind_of_column kind.Integer = Integer
kind_of_column (kind.Varchar n) = Text
kind_of_column kind.Date = Date
kind_of_column (kind.RowStart p) = Moment
kind_of_column (kind.RowEnd p) = Moment

-- two kinds are the same
unfoldable pub same_kind : ValueKind → ValueKind → Bool
same_kind Integer Integer = true
same_kind Text Text = true
same_kind Date Date = true
same_kind Moment Moment = true
same_kind _ _ = false

-- two kinds that are both there and differ
unfoldable pub differ : Option ValueKind → Option ValueKind → Bool
differ (Some x) (Some y) = not (same_kind x y)
differ _ _ = false
