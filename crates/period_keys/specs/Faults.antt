-- The state before a plan, and the rows that hold it, as the plan is judged.
use Rattle.std.specs.Prelude.{◌≡◌, ℕ, ℤ, List, Some, map}
use Rattle.std.specs.List.{Any}
use Rattle.period_core.specs.declared.row.PeriodRow.{PeriodRow}
use Rattle.period_core.specs.declared.version.VersionRow.{VersionRow}
use Rattle.catalog_core.specs.table.TableWords.{table_of}
use Rattle.catalog_core.specs.declared.change.Change.{Change}
use Rattle.catalog_core.specs.declared.change.Plan.{Plan}
use Rattle.catalog_core.specs.declared.table.Reference.{Reference}
use Rattle.catalog_core.specs.declared.table.TableDef.{TableDef}
use Rattle.history_model.specs.Histories.{State}
use Rattle.history_model.specs.Versions.{row_of}
use Rattle.period_keys.specs.Index.{AreAtKeys}
use Rattle.period_keys.specs.declared.periods_by_key.PeriodsByKey.{PeriodsByKey}
use Rattle.period_keys.specs.Current.{HoldCurrent, ReferToEarlier, rows_by_key}
use Rattle.period_keys.specs.Lawful.{HoldsTable, IsLawfulState, LacksParentBy, Refers}
use Rattle.period_keys.specs.Lawful.{own_positions, parent_positions, state_after}
use Rattle.period_keys.specs.LookUps.{periods_by}
use Rattle.period_keys.specs.TableRows.{TableRows}
use Rattle.period_keys.specs.Planned.{IsPlanOf}

-- the plan is a change's over its table's current rows, which hold a lawful state
pub record IsPlanned (catalog : List TableDef) (before : State) (change : Change)
    (current : List VersionRow) (plan : Plan) : Type 0 where
  pub lawful : IsLawfulState catalog before
  pub holds : HoldsTable (map row_of current) before change.table
  pub planned : IsPlanOf change.action current plan

-- the changed table refers to another, whose periods are looked up by the columns referred to
pub record RefersToOther (catalog : List TableDef) (before : State) (change : Change)
    (child : TableDef) (reference : Reference) (parent : TableDef) (parents : PeriodsByKey)
    : Type 0 where
  pub refers : Refers catalog change.table child reference parent
  pub other : reference.parent ≡ change.table → ⊥
  pub above : List PeriodRow
  pub holds : HoldsTable above before reference.parent
  pub indexed : AreAtKeys (parent_positions parent reference) above (periods_by parents)

-- another table refers to the changed one: its periods are looked up by its own columns, those of
-- the changed one by the columns referred to
pub record IsReferredTo (catalog : List TableDef) (before : State) (change : Change)
    (current : List VersionRow) (number : ℕ) (child : TableDef) (reference : Reference)
    (parent : TableDef) (children parents : PeriodsByKey) : Type 0 where
  pub refers : Refers catalog number child reference parent
  pub changed : reference.parent ≡ change.table
  pub other : number ≡ change.table → ⊥
  pub below : List PeriodRow
  pub holds : HoldsTable below before number
  pub children_indexed : AreAtKeys (own_positions child reference) below (periods_by children)
  pub parents_indexed :
      AreAtKeys (parent_positions parent reference) (map row_of current) (periods_by parents)

-- ---- all references

-- the change is planned over rows in memory, which hold a lawful state
pub record IsPlannedIn (catalog : List TableDef) (before : State) (tables : List TableRows)
    (change : Change) (plan : Plan) : Type 0 where
  pub earlier : ReferToEarlier catalog
  pub lawful : IsLawfulState catalog before
  pub holds : HoldCurrent catalog before (map rows_by_key tables)
  pub planned :
      (table : TableRows) → table_of tables change.table ≡ Some table
      → IsPlanOf change.action table.rows plan

-- on the day the change leaves a row of this table without its parent by this reference
abbrev pub IsFaultBy : List TableDef → State → Change → ℕ → TableDef → ℤ → Reference → Type 0
IsFaultBy catalog before change number child day reference =
    (parent : TableDef) × (table_of catalog reference.parent ≡ Some parent)
    × LacksParentBy (state_after change before) number child reference parent day

-- a fault by one of the table's references
abbrev pub IsFaultOf : List TableDef → State → Change → ℕ → TableDef → ℤ → Type 0
IsFaultOf catalog before change number child day =
    Any (IsFaultBy catalog before change number child day) child.references
