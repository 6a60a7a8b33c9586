use Rattle.std.specs.Prelude.{◌≡◌, ◌||◌, false, take}
use Rattle.std.specs.List.{list_any}
use Rattle.catalog_core.specs.create.Places.{repeats_place}
use Rattle.catalog_core.specs.create.PlacedTests.{names_several}
use Rattle.catalog_core.specs.declared.table.Column.{Column}
use Rattle.catalog_core.specs.declared.table.Reference.{Reference}
use Rattle.catalog_core.proofs.create.lawful.repeats_some.Given as goal

abbrev pub invariant-loop-column : goal.invariant-loop-column
invariant-loop-column l = list_any (λ (column : Column). names_several l.definition column.name) (take l.column-index l.column-items) ≡ false

abbrev pub invariant-loop-reference : goal.invariant-loop-reference
invariant-loop-reference l = list_any (λ (reference : Reference). repeats_place reference.own || repeats_place reference.keys) (take l.reference-index l.reference-items) ≡ false
