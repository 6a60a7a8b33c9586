use Rattle.std.specs.Prelude.{◌≡◌, length, map, take, true}
use Rattle.std.specs.List.{list_all}
use Rattle.catalog_core.specs.create.Definition.{declared_reference, is_reference_if_equal, reference_parts}
use Rattle.catalog_core.proofs.create.builder.declared_references.Given as goal

abbrev pub invariant-loop-element : goal.invariant-loop-element
invariant-loop-element l =
    (map (declared_reference l.catalog.tables l.create) (take l.element-index l.element-items) ≡ map reference_parts l.references.items)
    × (list_all (is_reference_if_equal (length l.create.columns)) l.references.items ≡ true)
