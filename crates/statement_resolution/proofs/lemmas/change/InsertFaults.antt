-- The conditions of an INSERT whose table exists: those by its shape, then those by its values.
use Rattle.std.proofs.Common.{◌≡◌, ◌∷◌, ◌++◌, ◌∙◌, false, List, None, Some, ap, lit≤, refl}
use Rattle.std.specs.Option.{option_and_then, option_or}
use Rattle.period_core.specs.Leasts.{IsLeast, NoneApplies}
use Rattle.period_core.specs.declared.refusal.Refusal.{Refusal}
use Rattle.period_core.specs.declared.refusal.Refusal.TheVariants.{UnknownTable}
use Rattle.sql_statements.specs.declared.statement.InsertRows.{InsertRows}
use Rattle.catalog_core.proofs.lemmas.judged.Least.{Ascending, first_append, first_least, none_first}
use Rattle.statement_resolution.specs.change.Insertion.{insert_conditions, lacks_table, shape_conditions, value_conditions}
use Rattle.catalog_core.specs.RefusalConditions.{Holds, first_holding}
use Rattle.catalog_core.specs.table.TableWords.{number_of, table_of, table_of_name}
use Rattle.catalog_core.specs.declared.table.TableDef.{TableDef}

ascending : (tables : List TableDef) (i : InsertRows) → Ascending 0 (insert_conditions tables i)
ascending tables i = (lit≤ tt, (lit≤ tt, (lit≤ tt, (lit≤ tt, (lit≤ tt, (lit≤ tt, (lit≤ tt, (lit≤ tt, tt))))))))

-- an INSERT into a table that does not exist
first_lacking : (tables : List TableDef) (i : InsertRows) → table_of_name tables i.table ≡ None → first_holding (insert_conditions tables i) ≡ Some UnknownTable
unfolding lacks_table
first_lacking tables i lacking = rw lacking refl

pub table_least : (tables : List TableDef) (i : InsertRows) → number_of tables i.table ≡ None → IsLeast (Holds (insert_conditions tables i)) UnknownTable
unfolding table_of_name
table_least tables i lacking =
    first_least (insert_conditions tables i) UnknownTable (ascending tables i) (first_lacking tables i (ap (option_and_then (table_of tables)) lacking))

-- an INSERT into a table that exists
found_conditions : (tables : List TableDef) (i : InsertRows) (t : TableDef) → table_of_name tables i.table ≡ Some t → insert_conditions tables i ≡ (UnknownTable, false) ∷ shape_conditions t i ++ value_conditions t i
unfolding lacks_table
found_conditions tables i t there = rw there refl

first_found : (tables : List TableDef) (i : InsertRows) (t : TableDef) → table_of_name tables i.table ≡ Some t → first_holding (insert_conditions tables i) ≡ option_or (first_holding (shape_conditions t i)) (first_holding (value_conditions t i))
first_found tables i t there =
    ap first_holding (found_conditions tables i t there) ∙ first_append (shape_conditions t i) (value_conditions t i)

pub shape_least : (tables : List TableDef) (i : InsertRows) (t : TableDef) (refusal : Refusal) → table_of_name tables i.table ≡ Some t → first_holding (shape_conditions t i) ≡ Some refusal → IsLeast (Holds (insert_conditions tables i)) refusal
shape_least tables i t refusal there shape =
    first_least (insert_conditions tables i) refusal (ascending tables i)
    (first_found tables i t there ∙ ap (λ o. option_or o (first_holding (value_conditions t i))) shape)

pub value_least : (tables : List TableDef) (i : InsertRows) (t : TableDef) (refusal : Refusal) → table_of_name tables i.table ≡ Some t → first_holding (shape_conditions t i) ≡ None → first_holding (value_conditions t i) ≡ Some refusal → IsLeast (Holds (insert_conditions tables i)) refusal
value_least tables i t refusal there shape value =
    first_least (insert_conditions tables i) refusal (ascending tables i)
    (first_found tables i t there ∙ ap (λ o. option_or o (first_holding (value_conditions t i))) shape ∙ value)

pub none_applies : (tables : List TableDef) (i : InsertRows) (t : TableDef) → table_of_name tables i.table ≡ Some t → first_holding (shape_conditions t i) ≡ None → first_holding (value_conditions t i) ≡ None → NoneApplies (Holds (insert_conditions tables i))
none_applies tables i t there shape value =
    none_first (insert_conditions tables i) (ascending tables i)
    (first_found tables i t there ∙ ap (λ o. option_or o (first_holding (value_conditions t i))) shape ∙ value)
