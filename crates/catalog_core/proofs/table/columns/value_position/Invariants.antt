use Rattle.std.specs.Prelude.{◌≡◌, ◌≤◌, bytes_eq, length}
use Rattle.std.specs.List.{position_or_len}
use Rattle.catalog_core.proofs.lemmas.table.Numbered.{names_before}
use Rattle.catalog_core.proofs.table.columns.value_position.Given as goal

abbrev pub invariant-loop-i : goal.invariant-loop-i
invariant-loop-i l = record {
  bound : l.position ≤ l.i;
  count : length (names_before l.table l.columns l.i) ≡ l.position;
  before : position_or_len (bytes_eq l.name) (names_before l.table l.columns l.i) ≡ l.position;
}
