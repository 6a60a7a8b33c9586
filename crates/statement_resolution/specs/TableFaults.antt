-- Faults of the parts of an UPDATE, a DELETE or a stored query, judged against their
-- table. A column or a period is named by its own name, with or without the table's name before it.
use Rattle.std.specs.Prelude.{◌&&◌, Bool, true, not, List, Option, Some, None, bytes_eq, count_by}
use Rattle.std.specs.Prelude.{int_le}
use Rattle.std.specs.List.{list_any}
use Rattle.sql_statements.specs.Trees.{Condition}
use Rattle.sql_statements.specs.declared.statement.Assignment.{Assignment}
use Rattle.sql_statements.specs.declared.statement.Compare.{Compare}
use Rattle.sql_statements.specs.declared.statement.PeriodOperand.{PeriodOperand}
use Rattle.sql_statements.specs.declared.statement.PeriodOperand.TheVariants.{Named, Dates}
use Rattle.sql_statements.specs.declared.statement.Portion.{Portion}
use Rattle.sql_statements.specs.declared.statement.StoredTest.{StoredTest}
use Rattle.sql_statements.specs.declared.statement.StoredTest.TheVariants.{Values, Periods}
use Rattle.sql_statements.specs.declared.statement.StoredTest.TheVariants.{ContainsDay}
use Rattle.statement_resolution.specs.Faults.{either, no_faults, where_faults}
use Rattle.statement_resolution.specs.change.Insertion.{is_of_other_kind, is_too_long}
use Rattle.statement_resolution.specs.query.Faults.{compare_faults, matches_among}
use Rattle.statement_resolution.specs.query.Scopes.{SeenColumn, is_qualified, own_columns}
use Rattle.catalog_core.specs.query.Selection.{names_non_value_column}
use Rattle.catalog_core.specs.table.Matches.{is_matching}
use Rattle.catalog_core.specs.table.Naming.{Name}
use Rattle.catalog_core.specs.table.TableWords.{def_matches, table_of_name}
use Rattle.statement_resolution.specs.declared.faults.Faults.{Faults}
use Rattle.catalog_core.specs.declared.table.match_counts.MatchCount.TheVariants.{Zero, Many}
use Rattle.catalog_core.specs.declared.table.TableDef.{TableDef}

-- ==== the table ====

-- the faults against a table, or that it is missing (23)
abbrev pub there_faults : (TableDef → Faults) → Option TableDef → Faults
there_faults faults None = record no_faults { table = true }
there_faults faults (Some t) = faults t

-- the faults of a statement about the table of a name
abbrev pub named_faults : (TableDef → Faults) → List TableDef → Name → Faults
named_faults faults catalog name = there_faults faults (table_of_name catalog name)

-- ==== SET ====

-- a column that is set, and its value: the table lacks the column (24), several have its name (25),
-- it is no value column (27), the value is of another kind (30), or a longer text than the column
-- takes (31)
unfoldable pub set_faults : TableDef → Assignment → Faults
set_faults t a = record no_faults {
  unknown = is_matching Zero (def_matches t a.column);
  ambiguous = is_matching Many (def_matches t a.column);
  period = names_non_value_column t a.column;
  kinds = is_of_other_kind t (a.column, a.value);
  long = is_too_long t (a.column, a.value);
}

-- a column that is set more than once
unfoldable pub is_set_again : List Assignment → Assignment → Bool
is_set_again assignments a =
    is_matching Many
    (count_by (λ (other : Assignment). bytes_eq a.column other.column) assignments)

-- some column is set more than once
unfoldable pub sets_twice : List Assignment → Bool
sets_twice assignments = list_any (λ (a : Assignment). is_set_again assignments a) assignments

-- the fault of a column that is set twice (26), whether the table exists or not
abbrev pub twice_fault : List Assignment → Faults
twice_fault assignments = record no_faults { twice = sets_twice assignments }

-- ==== FOR PORTION OF ====

-- a period that is not the table's (24), and a portion without a day (41)
unfoldable pub portion_faults : TableDef → Option Portion → Faults
portion_faults t None = no_faults
portion_faults t (Some portion) = record no_faults {
  unknown = not (bytes_eq portion.period t.period.name);
  empty = int_le portion.to portion.from;
}

-- ==== conditions ====

-- a comparison: under another qualifier than the table's name, a name matches no column
abbrev pub own_compare_faults : TableDef → Compare → Faults
own_compare_faults t c = compare_faults (matches_among (own_columns t)) c

-- a period that is not the table's (24), and a constructor without a day (41)
unfoldable pub period_faults : TableDef → PeriodOperand → Faults
period_faults t (Named r) = record no_faults {
  unknown = not (is_qualified r.qualifier t.name && bytes_eq r.name t.period.name);
}
period_faults t (Dates start end) = record no_faults { empty = int_le end start }

-- a test of a stored query, whose comparisons see these columns
unfoldable pub test_faults : TableDef → List SeenColumn → StoredTest → Faults
test_faults t columns (Values c) = compare_faults (matches_among columns) c
test_faults t columns (Periods left predicate right) =
    either (period_faults t left) (period_faults t right)
test_faults t columns (ContainsDay period day) = period_faults t period

-- the rows that an UPDATE or a DELETE is about: its portion, and its WHERE
abbrev pub rows_faults : TableDef → Option Portion → Option (Condition Compare) → Faults
rows_faults t portion condition =
    either (portion_faults t portion) (where_faults (own_compare_faults t) condition)
