-- A change with positions for names: its table by its number, and of INSERT its rows by their value
-- columns and their period.
use Rattle.std.specs.Prelude.{◌≡◌, false, List, [], Option, Some, map}
use Rattle.period_core.specs.declared.refusal.Refusal.TheVariants.{EmptyPeriod}
use Rattle.period_core.specs.declared.value.Value.{Value}
use Rattle.period_core.specs.declared.value.Value.TheVariants.{Date}
use Rattle.sql_statements.specs.declared.statement.InsertRows.{InsertRows}
use Rattle.sql_statements.specs.Trees.{Statement}
use Rattle.sql_statements.specs.Trees as statement
use Rattle.statement_resolution.specs.change.Insertion.{given_value, gives_empty_row}
use Rattle.statement_resolution.specs.change.Insertion.{insert_conditions}
use Rattle.statement_resolution.specs.change.Insertion.{value_for}
use Rattle.statement_resolution.specs.change.PortionChanges.{ResolvesDelete, ResolvesUpdate}
use Rattle.statement_resolution.specs.change.PortionChanges.{delete_conditions, update_conditions}
use Rattle.catalog_core.specs.RefusalConditions.{RefusalCondition}
use Rattle.catalog_core.specs.table.Naming.{Name}
use Rattle.catalog_core.specs.table.TableWords.{number_of, table_of, value_names}
use Rattle.catalog_core.specs.declared.change.Action.{Action}
use Rattle.catalog_core.specs.declared.change.Action.TheVariants.{Insert}
use Rattle.catalog_core.specs.declared.change.Change.{Change}
use Rattle.catalog_core.specs.declared.change.InsertedRow.{InsertedRow}
use Rattle.catalog_core.specs.declared.table.TableDef.{TableDef}

-- the statement is a change
abbrev pub IsChange : Statement → Type 0
IsChange (statement.insert i) = Unit {0}
IsChange (statement.update u) = Unit {0}
IsChange (statement.delete d) = Unit {0}
IsChange _ = ⊥

-- the refusals that a change may get by its statement and the catalog, each with its condition, but
-- for an empty row of INSERT; other statements have none
abbrev pub change_conditions : List TableDef → Statement → List RefusalCondition
change_conditions catalog (statement.insert i) = insert_conditions catalog i
change_conditions catalog (statement.update u) = update_conditions catalog u
change_conditions catalog (statement.delete d) = delete_conditions catalog d
change_conditions catalog _ = []

-- the one more: a row of INSERT whose period does not end after its start
abbrev pub empty_period : List TableDef → Statement → RefusalCondition
empty_period catalog (statement.insert i) = (EmptyPeriod, gives_empty_row catalog i)
empty_period catalog _ = (EmptyPeriod, false)

-- the parts of a row: the values of the value columns in declared order, and its period's start and
-- end
pub record RowParts : Type 0 where
  pub values : List (Option Value)
  pub start : Option Value
  pub end : Option Value

-- the parts of a row as it is written: what it gives for each of the columns
abbrev pub written_row : TableDef → Option (List Name) → List Value → RowParts
written_row t list row =
    record {
      values = map (given_value t list row) (value_names t);
      start = value_for t list row t.period.start;
      end = value_for t list row t.period.end;
    }

-- the parts of a given row
abbrev pub row_parts : InsertedRow → RowParts
row_parts given =
    record {
      values = map Some given.values;
      start = Some (Date given.start);
      end = Some (Date given.end);
    }

-- the rows of an INSERT, resolved
abbrev pub ResolvesAction : TableDef → InsertRows → Action → Type 0
ResolvesAction t i (Insert given) = map (written_row t i.columns) i.rows ≡ map row_parts given
ResolvesAction t i _ = ⊥

-- an INSERT into a table of the catalog, resolved to a change
pub record ResolvesInsert (catalog : List TableDef) (i : InsertRows) (change : Change) : Type 0
  where
    pub definition : TableDef
    pub number : number_of catalog i.table ≡ Some change.table
    pub table : table_of catalog change.table ≡ Some definition
    pub action : ResolvesAction definition i change.action

-- a statement that is resolved to a change; queries are none
abbrev pub ResolvesChange : List TableDef → Statement → Change → Type 0
ResolvesChange catalog (statement.insert i) change = ResolvesInsert catalog i change
ResolvesChange catalog (statement.update u) change = ResolvesUpdate catalog u change
ResolvesChange catalog (statement.delete d) change = ResolvesDelete catalog d change
ResolvesChange catalog _ change = ⊥
