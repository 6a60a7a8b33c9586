-- Rows with the values by which they are joined.
use Rattle.std.specs.Prelude.{◌≡◌, ◌⊎◌, ◌≤ℤ◌, ◌<ℤ◌, ℕ, List, All, AllPairs, Contains, Some}
use Rattle.std.specs.Prelude.{◌++◌, length, map, slice_get}
use Rattle.std.specs.declared.cmp.Ordering.TheVariants.{Less}
use Rattle.period_core.specs.Order.{values_cmp}
use Rattle.period_core.specs.declared.value.Value.{Value}
use Rattle.period_core.specs.declared.row.PeriodRow.{PeriodRow}
use Rattle.snapshot_audit.specs.declared.keys.KeyedEntry.{KeyedEntry}
use Rattle.snapshot_audit.specs.declared.shared_columns.SharedColumns.{SharedColumns}

-- the values have a value at each of the positions, and the key is these
abbrev pub Reads : List ℕ → List Value → List Value → Type 0
Reads columns values key = map (slice_get values) columns ≡ map Some key

-- the entry has its row's period
abbrev pub HasPeriod : KeyedEntry → Type 0
HasPeriod entry = entry.row.now.period ≡ entry.period

-- the key of the first precedes the key of the second, or it is the same, and the first starts no
-- later
abbrev pub IsInOrder : KeyedEntry → KeyedEntry → Type 0
IsInOrder entry other =
    (values_cmp entry.key other.key ≡ Less)
    ⊎ ((entry.key ≡ other.key) × (entry.period.start ≤ℤ other.period.start))

-- each entry precedes each later one
abbrev pub AreInOrder : List KeyedEntry → Type 0
AreInOrder = AllPairs IsInOrder

-- exactly the entries of the rows that have a key, in order
pub record AreByKey (columns : List ℕ) (rows : List PeriodRow) (entries : List KeyedEntry)
    : Type 0 where
  pub ordered : AreInOrder entries
  pub periods : All HasPeriod entries
  pub made : (entry : KeyedEntry) → Contains entries entry
      → Contains rows entry.row.now × Reads columns entry.row.now.values entry.key
  pub all : (row : PeriodRow) (key : List Value) → Contains rows row → Reads columns row.values key
      → (entry : KeyedEntry) × Contains entries entry × (entry.row.now ≡ row)

-- the other has the same key, and starts on a day of this one
abbrev pub BeginsWithin : KeyedEntry → KeyedEntry → Type 0
BeginsWithin entry other =
    (other.key ≡ entry.key) × (entry.period.start ≤ℤ other.period.start)
    × (other.period.start <ℤ entry.period.end)

-- ---- the columns of both sides

-- if a row of `width` values, one of `more` and the values that follow them are together as
-- `IsSo` says, what both sides read the same in the old columns they do in the new ones
abbrev pub ReadsMore : ℕ → ℕ → (List Value → Type 0) → SharedColumns → SharedColumns → Type 0
ReadsMore width more IsSo old new =
    (first second rest key : List Value) → length first ≡ width → length second ≡ more
    → IsSo ((first ++ second) ++ rest)
    → Reads old.first.items first key → Reads old.second.items second key
    → (longer : List Value)
    × Reads new.first.items first longer × Reads new.second.items second longer

-- there is a value at both positions, and it is the same
abbrev pub IsSameAt : ℕ → ℕ → List Value → Type 0
IsSameAt left right values =
    (value : Value) × (slice_get values left ≡ Some value) × (slice_get values right ≡ Some value)

-- each row has `width` values
abbrev pub HaveWidth : ℕ → List PeriodRow → Type 0
HaveWidth width = All (λ row. length row.values ≡ width)
