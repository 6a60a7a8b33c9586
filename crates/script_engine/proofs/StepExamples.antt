-- Worked rows: CREATE TABLE, INSERT and a stored query, accepted and refused, each as a step of the history.
use Rattle.std.proofs.Common.{◌≡◌, ◌∷◌, ◌++◌, [], ℕ, zero, suc, pos, true, false, List, None, Some, Ok, Err, ap, codes, map, refl, inl, inr, sym, arith}
use Rattle.std.specs.Prelude.{IsSorted}
use Rattle.std.proofs.lemmas.Bool.{false≢true}
use Rattle.std.proofs.lemmas.List.Sorted.{IsPermutation-refl}
use Rattle.std.specs.Str.{chars}
use Rattle.period_core.proofs.Periods.{period_over}
use Rattle.period_core.specs.Moments.{first_moment, forever}
use Rattle.period_core.specs.Leasts.{NoneApplies}
use Rattle.period_core.specs.declared.refusal.Refusal.TheVariants.{EmptyPeriod}
use Rattle.period_core.specs.declared.value.Value.{Value}
use Rattle.period_core.specs.declared.value.Value.TheVariants.{Int, Date}
use Rattle.period_core.specs.declared.version.VersionRow.{VersionRow}
use Rattle.period_core.specs.declared.window.Window.TheVariants as window
use Rattle.sql_statements.specs.Trees.{Stored}
use Rattle.sql_statements.specs.Trees as statement
use Rattle.sql_statements.specs.declared.create.ColumnElement.{ColumnElement}
use Rattle.sql_statements.specs.declared.create.CreateTable.{CreateTable}
use Rattle.sql_statements.specs.declared.create.Generated.TheVariants as generated
use Rattle.sql_statements.specs.declared.create.TypeName.TheVariants as type_name
use Rattle.sql_statements.specs.declared.statement.InsertRows.{InsertRows}
use Rattle.catalog_core.specs.create.Creation.{create_conditions, period_matches, some_parent_match, some_match, exceeds_limits, is_there, lacks_parent, names_other_period, lacks_period, lacks_name, is_ambiguous, is_shared, repeats_name, is_no_value_column, is_keyed, keys_period_column, lacks_one_of_each, has_bad_period, has_bad_system_period, is_bad_type, has_bad_column, is_used_otherwise, has_other_period, names_no_key, references_no_key, is_bad_definition, has_unequal_lists, names_other_kind, references_other_kind}
use Rattle.catalog_core.specs.create.Definition.{declared_kind, declared_reference}
use Rattle.catalog_core.specs.create.Places.{has_system_columns, declared_at, kind_at, is_date_place, are_dates}
use Rattle.history_model.specs.Histories.{Queried, Changed, Created, History, last_state, new_database, opened, with_event}
use Rattle.history_model.specs.Versions.{plain_version}
use Rattle.version_store.specs.Contents.{version_cmp, version_in}
use Rattle.statement_resolution.specs.stored.StoredQueries.{stored_conditions}
use Rattle.statement_resolution.specs.change.Insertion.{wanted_names, given_names, lacks_table, lists_unknown, lists_ambiguous, repeats_column, is_system_name, some_system_name, lists_system, omits_column, has_row_of_other_length, has_other_count, is_of_other_kind, is_longer, is_too_long, is_faulty, gives_faulty_value, has_faulty_value, given_value, value_for, is_no_period, gives_no_period, has_no_period}
use Rattle.catalog_core.specs.RefusalConditions.{Holds, RefusalCondition, first_holding}
use Rattle.catalog_core.specs.table.Kinds.{kind_of_column, same_kind, differ}
use Rattle.catalog_core.specs.table.Matches.{is_matching}
use Rattle.catalog_core.specs.table.Naming.{Name, repeats}
use Rattle.statement_resolution.specs.change.Resolution.{change_conditions, empty_period}
use Rattle.catalog_core.specs.table.TableWords.{def_kind, is_value_column, number_of, table_of_name}
use Rattle.catalog_core.specs.declared.change.Action.TheVariants.{Insert}
use Rattle.catalog_core.specs.declared.change.Change.{Change}
use Rattle.catalog_core.specs.declared.table.ColumnKind.TheVariants as kind
use Rattle.catalog_core.specs.declared.table.TableDef.{TableDef}
use Rattle.script_engine.specs.engine.Runs.{StatementApplies, Step}
use Rattle.statement_reports.specs.declared.outcome.Cell.TheVariants as cell
use Rattle.statement_reports.specs.declared.outcome.Outcome.TheVariants.{Done, Versions}
use Rattle.statement_reports.specs.declared.outcome.VersionList.{VersionList}
use Rattle.statement_reports.specs.declared.outcome.Word.TheVariants as word
use Rattle.script_engine.proofs.LawfulSteps.{HaveNoReferences, lawful_alone}
use Rattle.catalog_core.specs.table.Naming.{matches_among, place_among, some_match_among}
use Rattle.catalog_core.specs.table.Naming.{find_among}

-- if no condition is the first that holds, none does
pub none_if_no_first : (conditions : List RefusalCondition) → first_holding conditions ≡ None → NoneApplies (Holds conditions)
none_if_no_first [] e refusal h = h
none_if_no_first ((judged, true) ∷ more) e refusal h = cc
none_if_no_first ((judged, false) ∷ more) e refusal h = elim h [
  | inl here ↦ absurd (false≢true here.1)
  | inr there ↦ none_if_no_first more e refusal there
]

-- ---- CREATE TABLE

-- a column of integers, and one of days
abbrev plain : Name → ColumnElement
plain name = record { name = name; kind = type_name.Integer; generated = None }

abbrev day_column : Name → ColumnElement
day_column name = record { name = name; kind = type_name.Date; generated = None }

-- CREATE TABLE EMP (ENO INTEGER, DEPT INTEGER, S DATE, E DATE,
--  SS TIMESTAMP(12) GENERATED ALWAYS AS ROW START, SE TIMESTAMP(12) GENERATED ALWAYS AS ROW END,
--  PERIOD FOR EP (S, E), PERIOD FOR SYSTEM_TIME (SS, SE), PRIMARY KEY (ENO, EP WITHOUT OVERLAPS)) WITH SYSTEM VERSIONING
abbrev pub creation : CreateTable
creation =
    record {
      name = codes "EMP";
      columns =
          plain (codes "ENO") ∷ plain (codes "DEPT") ∷ day_column (codes "S") ∷ day_column (codes "E")
          ∷ record { name = codes "SS"; kind = type_name.Timestamp (Some 12); generated = Some generated.Start }
          ∷ record { name = codes "SE"; kind = type_name.Timestamp (Some 12); generated = Some generated.End }
          ∷ [];
      periods = record { name = codes "EP"; start = codes "S"; end = codes "E" } ∷ [];
      system_periods = record { start = codes "SS"; end = codes "SE" } ∷ [];
      keys = record { columns = codes "ENO" ∷ []; period = codes "EP" } ∷ [];
      references = [];
    }

-- the table that the CREATE gives: its period is over the columns at the places 2 and 3, its key the one at 0
abbrev pub emp : TableDef
emp =
    record {
      name = codes "EMP";
      columns =
          record { name = codes "ENO"; kind = kind.Integer }
          ∷ record { name = codes "DEPT"; kind = kind.Integer }
          ∷ record { name = codes "S"; kind = kind.Date }
          ∷ record { name = codes "E"; kind = kind.Date }
          ∷ record { name = codes "SS"; kind = kind.RowStart (Some 12) }
          ∷ record { name = codes "SE"; kind = kind.RowEnd (Some 12) }
          ∷ [];
      period = record { name = codes "EP"; start = 2; end = 3 };
      key = 0 ∷ [];
      references = [];
      sound = refl;
    }

-- the history of a new store, and the one in which the table was created
abbrev pub at_first : History
at_first = opened new_database

abbrev pub with_table : History
with_table = with_event at_first (Created emp)

-- no condition of a refusal holds for the CREATE in a new store
creation_is_sound : NoneApplies (StatementApplies at_first (statement.create creation))
unfolding matches_among place_among some_match_among repeats declared_kind period_matches some_parent_match some_match exceeds_limits is_there lacks_parent names_other_period lacks_period lacks_name is_ambiguous is_shared repeats_name is_no_value_column is_keyed keys_period_column lacks_one_of_each has_bad_period has_bad_system_period is_bad_type has_bad_column is_used_otherwise has_other_period names_no_key references_no_key is_bad_definition has_unequal_lists names_other_kind references_other_kind is_matching has_system_columns declared_at kind_at is_date_place are_dates number_of table_of_name kind_of_column same_kind differ
creation_is_sound = none_if_no_first (create_conditions [] creation) refl

-- the statement is accepted: it gives no rows, and the table exists from then on
pub created : Step at_first (statement.create creation) (Ok (Done word.Create 0)) with_table
unfolding place_among declared_reference declared_kind number_of table_of_name
created = (
  creation_is_sound,
  record {
    definition = emp;
    defined = record { name = refl; columns = refl; period = refl; key = refl; references = refl };
    done = refl;
    after = refl;
  },
)

-- ---- INSERT

-- an employee of department 7, from a day on and before another, as an INSERT writes it
abbrev employee : ℕ → ℕ → ℕ → List Value
employee number start end = Int (pos number) ∷ Int (pos 7) ∷ Date (pos start) ∷ Date (pos end) ∷ []

-- INSERT INTO EMP, without a list of columns
abbrev into_emp : List (List Value) → InsertRows
into_emp rows = record { table = codes "EMP"; columns = None; rows = rows }

-- INSERT INTO EMP VALUES (1, 7, DATE '1970-01-06', DATE '1970-01-09')
abbrev pub insertion : InsertRows
insertion = into_emp (employee 1 5 8 ∷ [])

-- employee 1 of department 7
abbrev pub worker : List Value
worker = Int (pos 1) ∷ Int (pos 7) ∷ []

-- a row of table 1, from day 5 on and before day 8
abbrev pub inserted_row : Change
inserted_row = record { table = 1; action = Insert (record { values = worker; start = pos 5; end = pos 8 } ∷ []) }

-- the history in which the row was added
abbrev pub with_row : History
with_row = with_event with_table (Changed first_moment inserted_row)

-- the table has no references
pub no_references : HaveNoReferences (emp ∷ [])
no_references zero child is = cc
no_references (suc zero) child is = let same : emp ≡ child = cc in ap (λ (d : TableDef). d.references) (sym same)
no_references (suc (suc place)) child is = cc

-- no condition of a refusal holds for the INSERT
insertion_is_sound : NoneApplies (StatementApplies with_table (statement.insert insertion))
unfolding matches_among some_match_among def_kind repeats is_matching number_of table_of_name kind_of_column same_kind differ wanted_names given_names lacks_table lists_unknown lists_ambiguous repeats_column is_system_name some_system_name lists_system omits_column has_row_of_other_length has_other_count is_of_other_kind is_longer is_too_long is_faulty gives_faulty_value has_faulty_value given_value value_for is_no_period gives_no_period has_no_period is_value_column chars find_among
insertion_is_sound =
    none_if_no_first
    (change_conditions (emp ∷ []) (statement.insert insertion) ++ empty_period (emp ∷ []) (statement.insert insertion) ∷ [])
    refl

-- the statement is accepted: it gives one row, which table 1 holds from then on
pub inserted : Step with_table (statement.insert insertion) (Ok (Done word.Insert 1)) with_row
unfolding number_of wanted_names given_names given_value value_for is_value_column
inserted = (
  insertion_is_sound,
  record {
    change = inserted_row;
    resolved = record { definition = emp; number = refl; table = refl; action = refl };
    lawful = lawful_alone (emp ∷ []) (last_state with_table) inserted_row no_references (λ day. omega arith);
    done = refl;
    after = refl;
  },
)

-- INSERT INTO EMP VALUES (1, 7, DATE '1970-01-06', DATE '1970-01-09'), (2, 7, DATE '1970-01-09', DATE '1970-01-09')
abbrev half_empty : InsertRows
half_empty = into_emp (employee 1 5 8 ∷ employee 2 8 8 ∷ [])

-- the second row ends on its first day: no history that has the first row follows the refusal
first_row_not_added : Step with_table (statement.insert half_empty) (Err EmptyPeriod) with_row → ⊥
first_row_not_added (may, same) = cc

-- ---- stored queries

-- the stored row
abbrev kept : VersionRow
kept = record { values = worker; period = period_over (pos 5) (pos 8) refl; from = first_moment; to = forever }

-- SELECT * FROM EMP
abbrev all_of_emp : Stored
all_of_emp = record { table = codes "EMP"; window = None; condition = None }

-- the six columns, and where their cells come from
abbrev shown : List VersionRow → VersionList
shown rows = record {
  columns =
      record { name = codes "ENO"; cell = cell.Value 0 }
      ∷ record { name = codes "DEPT"; cell = cell.Value 1 }
      ∷ record { name = codes "S"; cell = cell.Start }
      ∷ record { name = codes "E"; cell = cell.End }
      ∷ record { name = codes "SS"; cell = cell.From }
      ∷ record { name = codes "SE"; cell = cell.To }
      ∷ [];
  rows = rows;
}

-- a list of one row is in order
one_row : (v : VersionRow) → IsSorted version_cmp (map (version_in 1) (v ∷ []))
one_row v k d low high = absurd (omega arith)

-- the row is shown, and stays
stored : Step with_row (statement.stored all_of_emp) (Ok (Versions (shown (kept ∷ [])))) (with_event with_row Queried)
unfolding is_matching find_among matches_among differ same_kind kind_of_column def_kind is_value_column number_of table_of_name
stored = (
  none_if_no_first (stored_conditions (emp ∷ []) (statement.stored all_of_emp)) refl,
  (
    shown (kept ∷ []),
    refl,
    record {
      query = record { table = 1; window = window.Now; condition = None };
      resolved = record { definition = emp; number = refl; table = refl; window = refl; rows = tt };
      definition = emp;
      table = refl;
      columns = refl;
      versions = kept ∷ [];
      left = IsPermutation-refl (map plain_version (kept ∷ []));
      rows = record { all = IsPermutation-refl (kept ∷ []); sorted = one_row kept };
      after = refl;
    },
  ),
)
