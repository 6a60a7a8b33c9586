use Rattle.std.specs.Prelude.{◌≡◌, count_by, not, take}
use Rattle.catalog_core.specs.declared.table.Column.{Column}
use Rattle.catalog_core.specs.table.TableWords.{is_system}
use Rattle.statement_resolution.proofs.change.insert_names.wanted_count.Given as goal

abbrev pub invariant-loop-x : goal.invariant-loop-x
invariant-loop-x l = l.count ≡ count_by (λ (x : Column). not (is_system x.kind)) (take l.x-index l.x-items)
