-- The faults of a change, among the period rows that are current after it. Each law is the
-- contract of a function of this crate.
use Rattle.std.specs.Prelude.{◌≡◌, ◌↔◌, ◌⊎◌, ℕ, ℤ, List, Some}
use Rattle.period_core.specs.declared.row.PeriodRow.{PeriodRow}
use Rattle.catalog_core.specs.table.TableWords.{table_of}
use Rattle.catalog_core.specs.declared.change.Change.{Change}
use Rattle.catalog_core.specs.declared.table.Reference.{Reference}
use Rattle.catalog_core.specs.declared.table.TableDef.{TableDef}
use Rattle.history_model.specs.Histories.{State}
use Rattle.portion_dml.specs.Plans.{HaveEffect}
use Rattle.period_keys.specs.Keys.{HasNoClash, IsKeyClash, IsUncovered}
use Rattle.period_keys.specs.Lawful.{HoldsTable, IsKeyFault, IsLawfulChange, IsLawfulState}
use Rattle.period_keys.specs.Lawful.{LacksParentBy, Refers, key_positions, own_positions}
use Rattle.period_keys.specs.Lawful.{parent_positions, state_after}

-- given no clash before, the rows that are current after a change clash on exactly the days on
-- which it makes two rows of different origins share the key
abbrev pub KeyFaultsAreClashes : Type 0
KeyFaultsAreClashes =
    (catalog : List TableDef) (before : State) (change : Change) (def : TableDef)
    (rows after : List PeriodRow)
    → table_of catalog change.table ≡ Some def
    → HoldsTable rows before change.table
    → HaveEffect change.action rows after
    → HasNoClash (key_positions def) rows
    → (day : ℤ)
    → (IsKeyClash (key_positions def) after day ↔ IsKeyFault catalog before change day)

-- the uncovered child rows of any lists that hold the state are the state's own
abbrev pub LackingParentsAreUncovered : Type 0
LackingParentsAreUncovered =
    (state : State) (number : ℕ) (child : TableDef) (reference : Reference) (parent : TableDef)
    (children parents : List PeriodRow)
    → HoldsTable children state number
    → HoldsTable parents state reference.parent
    → (day : ℤ)
    → (IsUncovered (own_positions child reference) children
    (parent_positions parent reference) parents day
    ↔ LacksParentBy state number child reference parent day)

-- given all covered before, a child row without its parent after a change is one of the table that
-- is changed, or it names a row of that table
abbrev pub ChangesBreakTheirOwnReferences : Type 0
ChangesBreakTheirOwnReferences =
    (catalog : List TableDef) (before : State) (change : Change)
    → IsLawfulState catalog before
    → (number : ℕ) (child : TableDef) (reference : Reference) (parent : TableDef) (day : ℤ)
    → Refers catalog number child reference parent
    → LacksParentBy (state_after change before) number child reference parent day
    → (number ≡ change.table) ⊎ (reference.parent ≡ change.table)

-- a lawful change of a lawful state makes a lawful state
abbrev pub StatesStayLawful : Type 0
StatesStayLawful =
    (catalog : List TableDef) (before : State) (change : Change)
    → IsLawfulState catalog before
    → IsLawfulChange catalog before change
    → IsLawfulState catalog (state_after change before)
