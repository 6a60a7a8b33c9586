use Rattle.std.specs.Prelude.{◌≡◌, ◌++◌, nat_lt, take, true}
use Rattle.std.specs.List.{flat_map, list_all}
use Rattle.catalog_core.specs.declared.table.Reference.{Reference}
use Rattle.catalog_core.specs.bytes.DefinitionValues.{reference_values}
use Rattle.catalog_core.proofs.bytes.definition_list.push_references.Given as goal

abbrev pub invariant-loop-reference : goal.invariant-loop-reference
invariant-loop-reference l =
    (l.values.items ≡ l.initial.values.items ++ flat_map reference_values (take l.reference-index l.references))
    × (list_all (λ (r : Reference). nat_lt r.parent 256) (take l.reference-index l.references) ≡ true)
