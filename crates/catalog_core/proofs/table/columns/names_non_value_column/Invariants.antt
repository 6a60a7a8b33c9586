use Rattle.std.specs.Prelude.{◌≡◌, ◌&&◌, ℕ, bytes_eq, false, not, take}
use Rattle.std.specs.List.{enumerate_from, list_any}
use Rattle.catalog_core.specs.table.TableWords.{is_value_column}
use Rattle.catalog_core.specs.declared.table.Column.{Column}
use Rattle.catalog_core.proofs.table.columns.names_non_value_column.Given as goal

abbrev pub invariant-loop-i : goal.invariant-loop-i
invariant-loop-i l = list_any (λ (c : ℕ × Column). bytes_eq l.name c.1.name && not (is_value_column l.table c)) (take l.i (enumerate_from 0 l.columns)) ≡ false
