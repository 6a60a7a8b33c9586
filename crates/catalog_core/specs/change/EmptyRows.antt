-- Rows of INSERT whose period does not end after its start.
use Rattle.std.specs.Prelude.{Bool, false, int_le}
use Rattle.std.specs.List.{list_any}
use Rattle.catalog_core.specs.declared.change.Action.{Action}
use Rattle.catalog_core.specs.declared.change.Action.TheVariants.{Insert, Update, Delete}
use Rattle.catalog_core.specs.declared.change.InsertedRow.{InsertedRow}

-- the given row ends at or before its start
abbrev pub is_empty_row : InsertedRow → Bool
is_empty_row given = int_le given.end given.start

-- the change gives a row whose period has no day
abbrev pub has_empty_row : Action → Bool
has_empty_row (Insert given) = list_any is_empty_row given
has_empty_row (Update portion assignments condition) = false
has_empty_row (Delete portion condition) = false
