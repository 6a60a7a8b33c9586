use Rattle.std.specs.Prelude.{◌≡◌, ◌++◌, take, true}
use Rattle.std.specs.List.{flat_map, list_all}
use Rattle.sql_statements.specs.Names.{is_name}
use Rattle.catalog_core.specs.declared.table.Column.{Column}
use Rattle.catalog_core.specs.bytes.DefinitionValues.{column_values}
use Rattle.catalog_core.proofs.bytes.definition_list.push_columns.Given as goal

abbrev pub invariant-loop-column : goal.invariant-loop-column
invariant-loop-column l =
    (l.values.items ≡ l.initial.values.items ++ flat_map column_values (take l.column-index l.columns))
    × (list_all (λ (c : Column). is_name c.name) (take l.column-index l.columns) ≡ true)
