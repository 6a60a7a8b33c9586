-- UPDATE and DELETE: when they are refused, and what they are with positions for names.
use Rattle.std.specs.Prelude.{◌≡◌, List, Option, Some, map}
use Rattle.period_core.specs.declared.period.Period.{Period}
use Rattle.sql_statements.specs.Trees.{Update, Delete}
use Rattle.sql_statements.specs.declared.tree.Tree.{Tree}
use Rattle.statement_resolution.specs.Faults.{either, fault_conditions, faults_among}
use Rattle.statement_resolution.specs.TableFaults.{named_faults, rows_faults, set_faults}
use Rattle.statement_resolution.specs.TableFaults.{twice_fault}
use Rattle.catalog_core.specs.RefusalConditions.{RefusalCondition}
use Rattle.statement_resolution.specs.Positions.{ResolvesWhere, resolved_comparison}
use Rattle.statement_resolution.specs.Positions.{resolved_assignment}
use Rattle.statement_resolution.specs.Positions.{period_days, portion_days}
use Rattle.catalog_core.specs.table.TableWords.{number_of, table_of}
use Rattle.statement_resolution.specs.declared.faults.Faults.{Faults}
use Rattle.catalog_core.specs.declared.change.Action.{Action}
use Rattle.catalog_core.specs.declared.change.Action.TheVariants as action
use Rattle.catalog_core.specs.declared.change.Assignment.{Assignment}
use Rattle.catalog_core.specs.declared.change.Change.{Change}
use Rattle.catalog_core.specs.declared.condition.CompareValues.{CompareValues}
use Rattle.catalog_core.specs.declared.table.TableDef.{TableDef}

-- ==== refusals ====

-- the faults of an UPDATE against its table: 24, 25, 27, 30, 31 and 41
unfoldable pub update_faults : TableDef → Update → Faults
update_faults t u =
    either (rows_faults t u.portion u.condition) (faults_among (set_faults t) u.assignments)

-- the faults of a DELETE against its table: 24, 25, 27, 30 and 41
abbrev pub delete_faults : TableDef → Delete → Faults
delete_faults t d = rows_faults t d.portion d.condition

-- the refusals that an UPDATE may get by its statement and the catalog, each with its condition: it
-- gives no lists of two lengths (29)
abbrev pub update_conditions : List TableDef → Update → List RefusalCondition
update_conditions catalog u =
    fault_conditions
    (either (named_faults (λ t. update_faults t u) catalog u.table) (twice_fault u.assignments))

-- the conditions of the refusals that a DELETE may get: it sets no column (26, 31), and gives no
-- list (29)
abbrev pub delete_conditions : List TableDef → Delete → List RefusalCondition
delete_conditions catalog d =
    fault_conditions (named_faults (λ t. delete_faults t d) catalog d.table)

-- ==== positions for names ====

-- an UPDATE, and the change that says the same
pub record IsUpdateOf (t : TableDef) (u : Update) (portion : Option Period)
    (assignments : List Assignment) (condition : Option (Tree CompareValues)) : Type 0 where
  pub days : portion_days u.portion ≡ period_days portion
  pub sets : map (resolved_assignment t) u.assignments ≡ map (λ a. Some a) assignments
  pub rows : ResolvesWhere (resolved_comparison t) u.condition condition

-- the action is the same UPDATE
abbrev pub UpdatesAs : TableDef → Update → Action → Type 0
UpdatesAs t u (action.Update portion assignments condition) =
    IsUpdateOf t u portion assignments condition
UpdatesAs t u _ = ⊥

-- a DELETE, and the change that says the same
pub record IsDeleteOf (t : TableDef) (d : Delete) (portion : Option Period)
    (condition : Option (Tree CompareValues)) : Type 0 where
  pub days : portion_days d.portion ≡ period_days portion
  pub rows : ResolvesWhere (resolved_comparison t) d.condition condition

-- the action is the same DELETE
abbrev pub DeletesAs : TableDef → Delete → Action → Type 0
DeletesAs t d (action.Delete portion condition) = IsDeleteOf t d portion condition
DeletesAs t d _ = ⊥

-- an UPDATE of a table of the catalog, resolved to a change
pub record ResolvesUpdate (catalog : List TableDef) (u : Update) (change : Change) : Type 0
  where
    pub definition : TableDef
    pub number : number_of catalog u.table ≡ Some change.table
    pub table : table_of catalog change.table ≡ Some definition
    pub action : UpdatesAs definition u change.action

-- a DELETE of a table of the catalog, resolved to a change
pub record ResolvesDelete (catalog : List TableDef) (d : Delete) (change : Change) : Type 0
  where
    pub definition : TableDef
    pub number : number_of catalog d.table ≡ Some change.table
    pub table : table_of catalog change.table ≡ Some definition
    pub action : DeletesAs definition d change.action
