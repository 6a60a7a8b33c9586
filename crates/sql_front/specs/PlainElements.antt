-- The program's elements of CREATE TABLE as plain ones.
use Rattle.std.specs.Prelude.{[], ◌∷◌, ◌++◌}
use Rattle.sql_statements.specs.declared.create.CreateTable.{CreateTable}
use Rattle.sql_front.specs.declared.tables.TableElement as tables
use Rattle.sql_front.specs.declared.tables.TableElement.TheVariants as variant
use Rattle.sql_front.specs.Builders.{Element, column_element, period_element, system_element}
use Rattle.sql_front.specs.Builders.{key_element, reference_element}

-- an element of the program, as a plain one
abbrev pub plain_element : tables.TableElement → Element
plain_element (variant.Column c) = column_element c
plain_element (variant.Period p) = period_element p
plain_element (variant.System p) = system_element p
plain_element (variant.Key k) = key_element k
plain_element (variant.Reference r) = reference_element r

-- a table with one more element, which is the last of its kind
abbrev pub with_element : CreateTable → Element → CreateTable
with_element t (column_element c) = record t { columns = t.columns ++ c ∷ [] }
with_element t (period_element p) = record t { periods = t.periods ++ p ∷ [] }
with_element t (system_element p) = record t { system_periods = t.system_periods ++ p ∷ [] }
with_element t (key_element k) = record t { keys = t.keys ++ k ∷ [] }
with_element t (reference_element r) = record t { references = t.references ++ r ∷ [] }
