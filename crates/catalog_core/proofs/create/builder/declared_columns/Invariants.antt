use Rattle.std.specs.Prelude.{◌≡◌, map, take}
use Rattle.catalog_core.specs.create.Definition.{column_parts, declared_column}
use Rattle.catalog_core.proofs.create.builder.declared_columns.Given as goal

abbrev pub invariant-loop-element : goal.invariant-loop-element
invariant-loop-element l = map declared_column (take l.element-index l.element-items) ≡ map column_parts l.columns.items
