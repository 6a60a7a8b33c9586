use Rattle.std.proofs.Common.{◌≡◌}
use Rattle.version_store.specs.RowValues.{are_of_columns, are_row_values}
use Rattle.version_store.proofs.RowColumns.{columns_from}
use Rattle.version_store.proofs.row_values.are_row_values.Given as goal

abbrev pub invariant-loop-place : goal.invariant-loop-place
invariant-loop-place l = are_row_values l.table l.values ≡ are_of_columns (columns_from l.table l.place) l.rest
