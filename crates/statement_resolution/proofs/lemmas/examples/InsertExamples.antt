-- Worked examples: which refusal an INSERT gets, and what its rows are.
use Rattle.std.proofs.Common.{◌≡◌, ◌∷◌, ℕ, pos, true, List, [], Option, Some, None, refl}
use Rattle.std.specs.Prelude.{codes}
use Rattle.std.specs.Str.{chars}
use Rattle.period_core.specs.declared.refusal.Refusal.{Refusal}
use Rattle.period_core.specs.declared.refusal.Refusal.TheVariants.{TypeMismatch}
use Rattle.period_core.specs.declared.value.Value.{Value}
use Rattle.period_core.specs.declared.value.Value.TheVariants.{Int, Text, Date}
use Rattle.sql_statements.specs.declared.statement.InsertRows.{InsertRows}
use Rattle.catalog_core.proofs.lemmas.examples.Tables.{dep}
use Rattle.statement_resolution.specs.change.Insertion.{insert_conditions, wanted_names, given_names, lacks_table, lists_unknown, lists_ambiguous, repeats_column, is_system_name, some_system_name, lists_system, omits_column, has_row_of_other_length, has_other_count, is_of_other_kind, is_longer, is_too_long, is_faulty, gives_empty_row, gives_faulty_value, has_faulty_value, given_value, value_for, is_no_period, gives_no_period, has_no_period}
use Rattle.catalog_core.specs.RefusalConditions.{first_holding}
use Rattle.catalog_core.specs.table.Kinds.{kind_of_column, same_kind, differ}
use Rattle.catalog_core.specs.table.Matches.{is_matching}
use Rattle.catalog_core.specs.table.Naming.{Name, repeats}
use Rattle.statement_resolution.specs.change.Resolution.{row_parts, written_row}
use Rattle.catalog_core.specs.table.TableWords.{def_kind, is_value_column, number_of, table_of_name}
use Rattle.catalog_core.specs.table.Naming.{matches_among, some_match_among}
use Rattle.catalog_core.specs.table.Naming.{find_among}

abbrev day : ℕ → Value
day n = Date (pos n)

abbrev five : Value
five = Int (pos 5)

abbrev text : List ℕ → Value
text t = Text t

-- INSERT INTO a table, with a list of columns or without
abbrev insert : Name → Option (List Name) → List (List Value) → InsertRows
insert table list rows = record { table = table; columns = list; rows = rows }

abbrev refusal : InsertRows → Option Refusal
refusal i = first_holding (insert_conditions (dep ∷ []) i)

abbrev plain : List (List Value) → InsertRows
plain rows = insert (codes "DEP") None rows

abbrev listed : List Name → List Value → InsertRows
listed names row = insert (codes "DEP") (Some names) (row ∷ [])

abbrev sound : List Value
sound = day 1 ∷ day 2 ∷ five ∷ text (codes "AB") ∷ []

-- the names of one row's values in another order
abbrev turned : List Name
turned = codes "NAME" ∷ codes "DNO" ∷ codes "E" ∷ codes "S" ∷ []

abbrev turned_row : List Value
turned_row = text (codes "AB") ∷ five ∷ day 2 ∷ day 1 ∷ []

-- a row that ends on its first day
abbrev empty : List Value
empty = day 2 ∷ day 2 ∷ five ∷ text [] ∷ []

record Rows : Type 0 where
  accepted_listed : refusal (listed turned turned_row) ≡ None
  -- a value of another kind, and a text that is too long, in a row that ends on its first day
  mixed_and_empty : refusal (plain ((day 2 ∷ day 2 ∷ text [] ∷ text [] ∷ []) ∷ [])) ≡ Some TypeMismatch
  empty_row : gives_empty_row (dep ∷ []) (plain (sound ∷ empty ∷ [])) ≡ true
  turned_parts : written_row dep (Some turned) turned_row ≡ row_parts (record { values = five ∷ text (codes "AB") ∷ []; start = pos 1; end = pos 2 })

rows : Rows
unfolding matches_among some_match_among def_kind repeats is_matching number_of table_of_name kind_of_column same_kind differ wanted_names given_names lacks_table lists_unknown lists_ambiguous repeats_column is_system_name some_system_name lists_system omits_column has_row_of_other_length has_other_count is_of_other_kind is_longer is_too_long is_faulty gives_faulty_value has_faulty_value given_value value_for is_no_period gives_no_period has_no_period is_value_column chars find_among
rows = record {
  accepted_listed = refl;
  mixed_and_empty = refl;
  empty_row = refl;
  turned_parts = refl;
}
