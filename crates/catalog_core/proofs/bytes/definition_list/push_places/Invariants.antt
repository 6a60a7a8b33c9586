use Rattle.std.specs.Prelude.{◌≡◌, ◌++◌, take}
use Rattle.std.specs.List.{flat_map}
use Rattle.catalog_core.specs.bytes.DefinitionValues.{place_values}
use Rattle.catalog_core.proofs.bytes.definition_list.push_places.Given as goal

abbrev pub invariant-loop-place : goal.invariant-loop-place
invariant-loop-place l = l.values.items ≡ l.initial.values.items ++ flat_map place_values (take l.place-index l.places)
