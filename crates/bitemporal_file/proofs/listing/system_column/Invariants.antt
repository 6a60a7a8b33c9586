use Rattle.std.proofs.Common.{◌≡◌, drop, true, false}
use Rattle.bitemporal_file.specs.Listing.{is_row_end, is_row_start, name_of_kind}
use Rattle.bitemporal_file.proofs.listing.system_column.Given as goal

abbrev pub invariant-loop-column : goal.invariant-loop-column
invariant-loop-column l = record {
  start : l.is_start ≡ true → name_of_kind is_row_start (drop l.column-index l.columns) ≡ name_of_kind is_row_start l.columns;
  end : l.is_start ≡ false → name_of_kind is_row_end (drop l.column-index l.columns) ≡ name_of_kind is_row_end l.columns;
}
