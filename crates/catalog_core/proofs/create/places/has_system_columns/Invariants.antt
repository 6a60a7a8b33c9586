use Rattle.std.specs.Prelude.{◌≡◌, take, count_by}
use Rattle.catalog_core.specs.create.Places.{is_row_end, is_row_start}
use Rattle.catalog_core.specs.declared.table.Column.{Column}
use Rattle.catalog_core.proofs.create.places.has_system_columns.Given as goal

abbrev pub invariant-loop-column : goal.invariant-loop-column
invariant-loop-column l = record {
  starts : l.starts ≡ count_by (λ (x : Column). is_row_start x.kind) (take l.column-index l.columns);
  ends : l.ends ≡ count_by (λ (x : Column). is_row_end x.kind) (take l.column-index l.columns);
}
