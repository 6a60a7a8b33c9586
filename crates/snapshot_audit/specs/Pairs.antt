-- Pairs of rows that hold on the same days, and the values that a select takes of them.
use Rattle.std.specs.Prelude.{◌≡◌, ◌++◌, ◌⊎◌, ◌≤ℤ◌, ℕ, ℤ, List, Contains, length}
use Rattle.period_core.specs.DaySets.{InPeriod}
use Rattle.period_core.specs.declared.value.Value.{Value}
use Rattle.period_core.specs.declared.row.PeriodRow.{PeriodRow}
use Rattle.temporal_model.specs.Snapshot.{InSnapshot}
use Rattle.catalog_core.specs.declared.query.resolved.Select.{Select}
use Rattle.snapshot_audit.specs.declared.combined_rows.CombinedOutput.{CombinedOutput}
use Rattle.snapshot_audit.specs.declared.joins.EntrySide.{EntrySide}
use Rattle.snapshot_audit.specs.declared.joins.EntrySide.TheVariants.{First, Second}
use Rattle.snapshot_audit.specs.declared.keys.KeyedEntry.{KeyedEntry}
use Rattle.snapshot_audit.specs.declared.shared_columns.SharedColumns.{SharedColumns}
use Rattle.snapshot_audit.specs.Keys.{Reads}
use Rattle.snapshot_audit.specs.Selections.{CanMeet, IsKept}

-- ---- rows that are added

-- the new rows hold what the old ones do; what else they hold is of the first sets; and they hold
-- what is of the second
pub record Adds (InMay InMust : ℤ → List Value → Type 0) (old new : List PeriodRow) : Type 0 where
  pub kept : (day : ℤ) (row : List Value) → InSnapshot old day row → InSnapshot new day row
  pub made : (day : ℤ) (row : List Value) → InSnapshot new day row
      → (InSnapshot old day row ⊎ InMay day row)
  pub all : (day : ℤ) (row : List Value) → InMust day row → InSnapshot new day row

-- the values of two rows that both hold on the day
abbrev pub InPair : Select → CombinedOutput → PeriodRow → PeriodRow → ℤ → List Value → Type 0
InPair select output first second day row =
    InPeriod first.period day × InPeriod second.period day
    × IsKept select output (first.values ++ second.values) row

-- the values of two rows that can meet the conditions
abbrev pub InMeetingPair : Select → CombinedOutput → PeriodRow → PeriodRow → ℤ → List Value → Type 0
InMeetingPair select output first second day row =
    CanMeet select (first.values ++ second.values) × InPair select output first second day row

-- ---- of entries

-- a set of a pair, if the entry's row is first or second
abbrev pub Sided : (PeriodRow → PeriodRow → ℤ → List Value → Type 0)
    → EntrySide → KeyedEntry → KeyedEntry → ℤ → List Value → Type 0
Sided InBoth First entry other = InBoth entry.row.now other.row.now
Sided InBoth Second entry other = InBoth other.row.now entry.row.now

-- a set of the entry with an entry of the list
abbrev pub InEach : (KeyedEntry → KeyedEntry → ℤ → List Value → Type 0)
    → KeyedEntry → List KeyedEntry → ℤ → List Value → Type 0
InEach InBoth entry others day row =
    (other : KeyedEntry) × Contains others other × InBoth entry other day row

-- a set of one of the entries with one of the other list
abbrev pub InAny : (KeyedEntry → KeyedEntry → ℤ → List Value → Type 0)
    → List KeyedEntry → List KeyedEntry → ℤ → List Value → Type 0
InAny InBoth entries others day row =
    (entry : KeyedEntry) × Contains entries entry × InEach InBoth entry others day row

-- the other has the entry's key, and starts no earlier
abbrev pub Begun : (KeyedEntry → KeyedEntry → ℤ → List Value → Type 0)
    → KeyedEntry → KeyedEntry → ℤ → List Value → Type 0
Begun InBoth entry other day row =
    (other.key ≡ entry.key) × (entry.period.start ≤ℤ other.period.start)
    × InBoth entry other day row

-- ---- the whole

-- the columns are read as the same key in each pair of rows that can meet the conditions
abbrev pub AreShared : Select → List PeriodRow → List PeriodRow → List ℕ → List ℕ → Type 0
AreShared select rows others first second =
    (row other : PeriodRow) → Contains rows row → Contains others other
    → CanMeet select (row.values ++ other.values)
    → (key : List Value) × Reads first row.values key × Reads second other.values key

-- columns that are read as the same key in each two lists, of `width` and of `more` values, that
-- can meet the conditions
abbrev pub ReadSame : Select → ℕ → ℕ → SharedColumns → Type 0
ReadSame select width more columns =
    (first second : List Value) → length first ≡ width → length second ≡ more
    → CanMeet select (first ++ second)
    → (key : List Value)
    × Reads columns.first.items first key × Reads columns.second.items second key

-- the joined rows hold on each day the outputs of a row of each side: at least of
-- those that can meet the conditions
pub record AreJoined (select : Select) (output : CombinedOutput)
    (rows others joined : List PeriodRow) : Type 0 where
  pub made : (day : ℤ) (row : List Value) → InSnapshot joined day row
      → (first second : List Value) × InSnapshot rows day first × InSnapshot others day second
      × IsKept select output (first ++ second) row
  pub all : (day : ℤ) (first second row : List Value) → InSnapshot rows day first
      → InSnapshot others day second → CanMeet select (first ++ second)
      → IsKept select output (first ++ second) row → InSnapshot joined day row
