-- Lawful changes: on no day do two of a table's rows share its key, and each child row has its
-- parent. The days on which a change would break either.
use Rattle.std.specs.Prelude.{◌≡◌, ℕ, ℤ, List, Some, Contains, IsPermutation}
use Rattle.period_core.specs.declared.row.PeriodRow.{PeriodRow}
use Rattle.temporal_model.specs.Snapshot.{values_on}
use Rattle.catalog_core.specs.table.TableWords.{table_of}
use Rattle.catalog_core.specs.declared.change.Change.{Change}
use Rattle.catalog_core.specs.declared.table.Reference.{Reference}
use Rattle.catalog_core.specs.declared.table.TableDef.{TableDef}
use Rattle.history_model.specs.Effects.{Traced, effect, traced}
use Rattle.history_model.specs.Histories.{State}
use Rattle.period_keys.specs.Days.{LacksParent, ShareKey}
use Rattle.period_keys.specs.Keys.{values_at}
use Rattle.period_keys.specs.Positions.{positions_of_places}

-- the positions of a table's key among a row's values
abbrev pub key_positions : TableDef → List ℕ
key_positions def = positions_of_places def def.key

-- the positions of a reference's own columns, in the child
abbrev pub own_positions : TableDef → Reference → List ℕ
own_positions child reference = positions_of_places child reference.own

-- the positions of the columns in the parent that they refer to
abbrev pub parent_positions : TableDef → Reference → List ℕ
parent_positions parent reference = positions_of_places parent reference.keys

-- ---- keys

-- two traced rows of different origins have equal keys
abbrev pub OriginsShareKey : List ℕ → List Traced → Type 0
OriginsShareKey positions rows =
    (a : Traced) × (b : Traced) × Contains rows a × Contains rows b
    × (a.origin ≡ b.origin → ⊥) × (values_at positions a.row ≡ values_at positions b.row)

-- on the day the change makes two rows of its table share the key: rows of different origins
abbrev pub IsKeyFault : List TableDef → State → Change → ℤ → Type 0
IsKeyFault catalog before change day =
    (def : TableDef) × (table_of catalog change.table ≡ Some def)
    × OriginsShareKey (key_positions def) (traced change.action day (before change.table day))

-- ---- references

-- the child table has this reference, to the parent table
pub record Refers (catalog : List TableDef) (number : ℕ) (child : TableDef) (reference : Reference)
    (parent : TableDef) : Type 0 where
  pub is_child : table_of catalog number ≡ Some child
  pub is_reference : Contains child.references reference
  pub is_parent : table_of catalog reference.parent ≡ Some parent

-- on the day some row of the child table has no parent row with the key that it names
abbrev pub LacksParentBy : State → ℕ → TableDef → Reference → TableDef → ℤ → Type 0
LacksParentBy state number child reference parent day =
    LacksParent (own_positions child reference) (state number day)
    (parent_positions parent reference) (state reference.parent day)

-- a child without a parent, of some table and some reference of it
abbrev pub IsUnreferred : List TableDef → State → ℤ → Type 0
IsUnreferred catalog state day =
    (number : ℕ) × (child : TableDef) × (reference : Reference) × (parent : TableDef)
    × Refers catalog number child reference parent
    × LacksParentBy state number child reference parent day

-- the state that a change makes
abbrev pub state_after : Change → State → State
state_after change before table day = effect change table day (before table day)

-- on the day some child row of the state after the change has no parent
abbrev pub IsReferenceFault : List TableDef → State → Change → ℤ → Type 0
IsReferenceFault catalog before change day = IsUnreferred catalog (state_after change before) day

-- ---- lawful states and changes

-- on no day do two rows of a table share its key, and each child row has its parent
pub record IsLawfulState (catalog : List TableDef) (state : State) : Type 0 where
  pub keys : (table : ℕ) (def : TableDef) → table_of catalog table ≡ Some def → (day : ℤ)
      → ShareKey (key_positions def) (state table day) → ⊥
  pub references : (day : ℤ) → IsUnreferred catalog state day → ⊥

-- each row of the child table has its parent by this reference
abbrev pub IsCoveredBy : List TableDef → State → ℕ → TableDef → Reference → Type 0
IsCoveredBy catalog state number child reference =
    (parent : TableDef) → table_of catalog reference.parent ≡ Some parent → (day : ℤ)
    → LacksParentBy state number child reference parent day → ⊥

-- one table is lawful: no two of its rows share its key, and each has its parents
pub record IsLawfulTable (catalog : List TableDef) (state : State) (number : ℕ) (def : TableDef)
    : Type 0 where
  pub keys : (day : ℤ) → ShareKey (key_positions def) (state number day) → ⊥
  pub references :
      (reference : Reference) → Contains def.references reference
      → IsCoveredBy catalog state number def reference

-- the change has no fault on any day
pub record IsLawfulChange (catalog : List TableDef) (before : State) (change : Change)
    : Type 0 where
  pub keys : (day : ℤ) → IsKeyFault catalog before change day → ⊥
  pub references : (day : ℤ) → IsReferenceFault catalog before change day → ⊥

-- ---- period rows that hold a state

-- on each day the rows hold the table's rows of the state, each as often
abbrev pub HoldsTable : List PeriodRow → State → ℕ → Type 0
HoldsTable rows state table = (day : ℤ) → IsPermutation (values_on rows day) (state table day)

-- the positions of the key of the table of this number
abbrev pub IsKeyOf : List TableDef → ℕ → List ℕ → Type 0
IsKeyOf catalog table positions =
    (def : TableDef) × (table_of catalog table ≡ Some def) × (positions ≡ key_positions def)
