-- The rows in memory of a catalog's tables: what they hold, and the indexes that references need.
use Rattle.std.specs.Prelude.{◌≡◌, ◌<◌, ℕ, List, Some, Contains, map}
use Rattle.catalog_core.specs.table.TableWords.{table_of}
use Rattle.catalog_core.specs.declared.table.Reference.{Reference}
use Rattle.catalog_core.specs.declared.table.TableDef.{TableDef}
use Rattle.history_model.specs.Histories.{State}
use Rattle.history_model.specs.Versions.{row_of}
use Rattle.period_keys.specs.Lawful.{HoldsTable, Refers, key_positions, own_positions}
use Rattle.period_keys.specs.Lawful.{parent_positions}
use Rattle.period_keys.specs.Rows.{RowsByKey}
use Rattle.period_keys.specs.TableRows.{TableRows}

-- ---- rows

-- on each day, the rows by the table's key are the rows of the table of this number
pub record HoldsCurrent (state : State) (number : ℕ) (def : TableDef) (table : RowsByKey)
    : Type 0 where
  pub keyed : table.positions ≡ key_positions def
  pub holds : HoldsTable (map row_of table.rows) state number

-- the rows of each table of the catalog hold the state
abbrev pub HoldCurrent : List TableDef → State → List RowsByKey → Type 0
HoldCurrent catalog state tables =
    (number : ℕ) (def : TableDef) → table_of catalog number ≡ Some def
    → (table : RowsByKey) × (table_of tables number ≡ Some table)
    × HoldsCurrent state number def table

-- ---- indexes

-- a table's rows by its key, without their indexes
abbrev pub rows_by_key : TableRows → RowsByKey
rows_by_key table = record { positions = table.positions; rows = table.rows }

-- the periods of the table of this number are indexed by these positions
abbrev pub IsIndexedBy : List TableRows → ℕ → List ℕ → Type 0
IsIndexedBy tables number positions =
    (table : TableRows) × (table_of tables number ≡ Some table) × Contains table.indexed positions

-- the indexes of the child by a reference's own columns, of the parent by the columns referred to
pub record IsIndexed (tables : List TableRows) (number : ℕ) (child : TableDef)
    (reference : Reference) (parent : TableDef) : Type 0 where
  pub children : IsIndexedBy tables number (own_positions child reference)
  pub parents : IsIndexedBy tables reference.parent (parent_positions parent reference)

-- each reference of a table has its indexes
abbrev pub AreReferencesIndexed : List TableDef → List TableRows → ℕ → TableDef → Type 0
AreReferencesIndexed catalog tables number child =
    (reference : Reference) (parent : TableDef) → Contains child.references reference
    → table_of catalog reference.parent ≡ Some parent
    → IsIndexed tables number child reference parent

-- each table of the catalog has the indexes of its references
abbrev pub HaveIndexes : List TableDef → List TableRows → Type 0
HaveIndexes catalog tables =
    (number : ℕ) (child : TableDef) → table_of catalog number ≡ Some child
    → AreReferencesIndexed catalog tables number child

-- a child's rows are indexed by the own columns of each of its references
abbrev pub IsIndexedAsChild : TableDef → TableRows → Type 0
IsIndexedAsChild child table =
    (reference : Reference) → Contains child.references reference
    → Contains table.indexed (own_positions child reference)

-- the rows of a reference's parent are indexed by the columns that it refers to
abbrev pub IsParentIndexed : List TableDef → Reference → List TableRows → Type 0
IsParentIndexed catalog reference tables =
    (parent : TableDef) → table_of catalog reference.parent ≡ Some parent
    → IsIndexedBy tables reference.parent (parent_positions parent reference)

-- the rows of all parents of a child are indexed
abbrev pub AreParentsIndexed : List TableDef → TableDef → List TableRows → Type 0
AreParentsIndexed catalog child tables =
    (reference : Reference) → Contains child.references reference
    → IsParentIndexed catalog reference tables

-- the second list has the same rows, and at least the indexes of the first
pub record HaveMoreIndexes (old new : List TableRows) : Type 0 where
  pub same : map rows_by_key new ≡ map rows_by_key old
  pub indexed :
      (number : ℕ) (positions : List ℕ) → IsIndexedBy old number positions
      → IsIndexedBy new number positions

-- ---- catalogs

-- each reference is to an earlier table: CREATE refuses one to a table that does not exist yet, so
-- also to itself
abbrev pub ReferToEarlier : List TableDef → Type 0
ReferToEarlier catalog =
    (number : ℕ) (child : TableDef) (reference : Reference) (parent : TableDef)
    → Refers catalog number child reference parent
    → reference.parent < number
