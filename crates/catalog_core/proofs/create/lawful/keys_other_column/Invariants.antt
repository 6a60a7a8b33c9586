use Rattle.std.specs.Prelude.{◌≡◌, ◌&&◌, ℕ, false, not, take}
use Rattle.std.specs.List.{enumerate_from, list_any}
use Rattle.catalog_core.specs.create.PlacedTests.{is_keyed_place}
use Rattle.catalog_core.specs.table.TableWords.{is_value_column}
use Rattle.catalog_core.specs.declared.table.Column.{Column}
use Rattle.catalog_core.proofs.create.lawful.keys_other_column.Given as goal

abbrev pub invariant-loop-i : goal.invariant-loop-i
invariant-loop-i l = list_any (λ (c : ℕ × Column). is_keyed_place l.definition c.0 && not (is_value_column l.definition c)) (take l.i (enumerate_from 0 l.columns)) ≡ false
