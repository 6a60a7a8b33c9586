use Rattle.std.specs.Prelude.{◌≡◌, false, take}
use Rattle.std.specs.List.{list_any}
use Rattle.catalog_core.specs.create.Places.{has_place}
use Rattle.catalog_core.specs.declared.table.Reference.{Reference}
use Rattle.catalog_core.proofs.create.lawful.is_keyed_place.Given as goal

abbrev pub invariant-loop-reference : goal.invariant-loop-reference
invariant-loop-reference l = list_any (λ (reference : Reference). has_place reference.own l.place) (take l.reference-index l.reference-items) ≡ false
