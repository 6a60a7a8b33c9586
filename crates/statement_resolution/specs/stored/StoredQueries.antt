-- A stored query: when it is refused, and what it is with positions for names.
use Rattle.std.specs.Prelude.{◌≡◌, ℤ, List, [], Option, Some}
use Rattle.std.specs.Option.{option_map}
use Rattle.sql_statements.specs.Trees as written
use Rattle.sql_statements.specs.Trees.{Condition, Statement, stored}
use Rattle.sql_statements.specs.declared.statement.PeriodOperand.{PeriodOperand}
use Rattle.sql_statements.specs.declared.statement.PeriodOperand.TheVariants.{Named, Dates}
use Rattle.sql_statements.specs.declared.statement.PeriodPredicate.{PeriodPredicate}
use Rattle.sql_statements.specs.declared.statement.StoredTest.{StoredTest}
use Rattle.sql_statements.specs.declared.statement.StoredTest.TheVariants as written_test
use Rattle.sql_statements.specs.declared.tree.Tree.{Tree}
use Rattle.statement_resolution.specs.Faults.{fault_conditions, where_faults}
use Rattle.statement_resolution.specs.TableFaults.{named_faults, test_faults}
use Rattle.statement_resolution.specs.query.Scopes.{own_columns}
use Rattle.catalog_core.specs.RefusalConditions.{RefusalCondition}
use Rattle.statement_resolution.specs.Positions.{ReplacesWhere, resolved_comparison}
use Rattle.statement_resolution.specs.SystemWindows.{window_of}
use Rattle.catalog_core.specs.table.TableWords.{number_of, table_of}
use Rattle.catalog_core.specs.declared.condition.CompareValues.{CompareValues}
use Rattle.catalog_core.specs.declared.stored.PeriodSide.{PeriodSide}
use Rattle.catalog_core.specs.declared.stored.PeriodSide.TheVariants.{Row, Days}
use Rattle.catalog_core.specs.declared.stored.Stored.{Stored}
use Rattle.catalog_core.specs.declared.stored.VersionTest.{VersionTest}
use Rattle.catalog_core.specs.declared.stored.VersionTest.TheVariants.{Values, Periods, ContainsDay}
use Rattle.statement_resolution.specs.declared.faults.Faults.{Faults}
use Rattle.catalog_core.specs.declared.table.TableDef.{TableDef}

-- ==== refusals ====

-- the statement is a stored query
abbrev pub IsStored : Statement → Type 0
IsStored (stored s) = Unit {0}
IsStored _ = ⊥

-- the faults of a stored query against its table: 24, 25, 27, 30 and 41; a column in the place of a
-- period is unknown
abbrev pub stored_faults : TableDef → written.Stored → Faults
stored_faults t s = where_faults (test_faults t (own_columns t)) s.condition

-- the refusals that a stored query may get by its statement and the catalog, each with its
-- condition: it sets no column (26, 31), and gives no list (29)
abbrev pub stored_query_conditions : List TableDef → written.Stored → List RefusalCondition
stored_query_conditions catalog s =
    fault_conditions (named_faults (λ t. stored_faults t s) catalog s.table)

-- the conditions of a statement that is a stored query; another statement has none
abbrev pub stored_conditions : List TableDef → Statement → List RefusalCondition
stored_conditions catalog (stored s) = stored_query_conditions catalog s
stored_conditions catalog _ = []

-- ==== positions for names ====

-- a side of a period predicate, with no proof inside: the row's period, or one of two days
pub data PlainSide : Type 0 where
  RowPeriod : PlainSide
  FromTo : ℤ → ℤ → PlainSide

-- a test of a version, with no proof inside
pub data PlainTest : Type 0 where
  Compared : CompareValues → PlainTest
  Related : PlainSide → PeriodPredicate → PlainSide → PlainTest
  HasDay : PlainSide → ℤ → PlainTest

-- as it is written: the period that is named is the table's
abbrev pub written_side : PeriodOperand → PlainSide
written_side (Named name) = RowPeriod
written_side (Dates start end) = FromTo start end

-- a test as it is written, if its columns have positions
abbrev pub written_parts : TableDef → StoredTest → Option PlainTest
written_parts t (written_test.Values c) = option_map (λ n. Compared n) (resolved_comparison t c)
written_parts t (written_test.Periods left predicate right) =
    Some (Related (written_side left) predicate (written_side right))
written_parts t (written_test.ContainsDay side day) = Some (HasDay (written_side side) day)

-- the parts of a side of a test with positions
abbrev pub side_parts : PeriodSide → PlainSide
side_parts Row = RowPeriod
side_parts (Days period) = FromTo period.start period.end

-- a test of a version as these parts
abbrev pub test_parts : VersionTest → PlainTest
test_parts (Values c) = Compared c
test_parts (Periods left predicate right) =
    Related (side_parts left) predicate (side_parts right)
test_parts (ContainsDay side day) = HasDay (side_parts side) day

-- a WHERE with positions for its columns
abbrev pub ResolvesStoredWhere
    : TableDef → Option (Condition StoredTest) → Option (Tree VersionTest) → Type 0
ResolvesStoredWhere t condition resolved =
    ReplacesWhere (written_parts t) (λ leaf. Some (test_parts leaf)) condition resolved

-- a stored query of a table of the catalog, with positions
pub record ResolvesStoredQuery (catalog : List TableDef) (s : written.Stored) (query : Stored)
    : Type 0 where
  pub definition : TableDef
  pub number : number_of catalog s.table ≡ Some query.table
  pub table : table_of catalog query.table ≡ Some definition
  pub window : query.window ≡ window_of s.window
  pub rows : ResolvesStoredWhere definition s.condition query.condition

-- the stored query that a statement asks, with positions; other statements ask none
abbrev pub ResolvesStored : List TableDef → Statement → Stored → Type 0
ResolvesStored catalog (stored s) query = ResolvesStoredQuery catalog s query
ResolvesStored catalog _ query = ⊥
