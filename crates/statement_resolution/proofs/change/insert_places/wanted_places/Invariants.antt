use Rattle.std.specs.Prelude.{◌≡◌, ℕ, Some, filter, map, not, take}
use Rattle.catalog_core.specs.table.TableWords.{def_place, is_system}
use Rattle.catalog_core.specs.declared.table.Column.{Column}
use Rattle.statement_resolution.proofs.change.insert_places.wanted_places.Given as goal

abbrev pub invariant-loop-i : goal.invariant-loop-i
invariant-loop-i l =
    map (def_place l.table) (map (λ (x : Column). x.name) (filter (λ (x : Column). not (is_system x.kind)) (take l.i l.columns)))
    ≡ map (λ (i : ℕ). Some i) l.places.items
