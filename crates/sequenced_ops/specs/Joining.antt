-- Rows with the keys by which they are joined, and how a sweep over them finds their pairs.
use Rattle.std.specs.Prelude.{◌≡◌, ◌++◌, ◌⊎◌, ◌≤ℤ◌, ℕ, ℤ, List, [], ◌∷◌, pos, map, Contains, false}
use Rattle.std.specs.Prelude.{IsTrue, Some, slice_get}
use Rattle.std.specs.List.{All}
use Rattle.std.specs.Ordering.{int_cmp, is_lt, ordering_then}
use Rattle.std.specs.declared.cmp.Ordering.{Ordering}
use Rattle.period_core.specs.DaySets.{InPeriod}
use Rattle.period_core.specs.Order.{values_cmp}
use Rattle.period_core.specs.declared.value.Value.{Value}
use Rattle.period_core.specs.declared.value.Value.TheVariants.{Int, Text, Date}
use Rattle.period_core.specs.declared.row.PeriodRow.{PeriodRow}
use Rattle.temporal_model.specs.Snapshot.{InSnapshot}
use Rattle.history_model.specs.OrdinaryQuery.{meets_all}
use Rattle.sequenced_ops.specs.declared.equalities.Equality.{Equality}
use Rattle.sequenced_ops.specs.declared.keyed.JoinKey.{JoinKey}
use Rattle.sequenced_ops.specs.declared.keyed.KeyedRow.{KeyedRow}
use Rattle.sequenced_ops.specs.declared.keyed.Side.{Side}
use Rattle.sequenced_ops.specs.declared.keyed.Side.TheVariants.{Left, Right}
use Rattle.sequenced_ops.specs.Operations.{Cond, ReadsColumns}

-- ---- equalities

-- both rows have a value at their column of the equality, and it is the same
abbrev pub IsEqual : List Value → List Value → Equality → Type 0
IsEqual first second equality =
    (value : Value)
    × (slice_get first equality.left ≡ Some value) × (slice_get second equality.right ≡ Some value)

-- a left and a right row that are held on the day and meet the equalities, one after the other
abbrev pub InEqualPairs
    : List Equality → List PeriodRow → List PeriodRow → ℤ → List Value → Type 0
InEqualPairs equalities left right day values =
    (first : List Value) × (second : List Value)
    × InSnapshot left day first × InSnapshot right day second
    × All (IsEqual first second) equalities × (first ++ second ≡ values)

-- ---- keys

-- the column of this side that an equality names
abbrev pub column_on : Side → Equality → ℕ
column_on Left equality = equality.left
column_on Right equality = equality.right

-- the columns of this side, equality by equality
abbrev pub columns_on : Side → List Equality → List ℕ
columns_on side equalities = map (column_on side) equalities

-- the key of values: a first integer is held apart, and a first date has its number
-- there too; of values of one length no two have the same key
abbrev pub key_of : List Value → JoinKey
key_of [] = record { lead = pos 0; rest = [] }
key_of (Int number ∷ values) = record { lead = number; rest = values }
key_of (Text text ∷ values) = record { lead = pos 0; rest = Text text ∷ values }
key_of (Date day ∷ values) = record { lead = day; rest = Date day ∷ values }

-- the order of keys: by the lead, then by the rest
abbrev pub key_cmp : JoinKey → JoinKey → Ordering
key_cmp a b = ordering_then (int_cmp a.lead b.lead) (values_cmp a.rest b.rest)

-- the row has this key on this side
pub record IsKeyed (origin : Side) (columns : List ℕ) (row : PeriodRow) (keyed : KeyedRow)
    : Type 0 where
  pub key : (read : List Value) × ReadsColumns columns row.values read × (key_of read ≡ keyed.key)
  pub period : row.period ≡ keyed.period
  pub side : keyed.side ≡ origin
  pub values : row.values ≡ keyed.values.now

-- ---- pairs

-- the two rows have the same key, both hold on the day, and these are their values
abbrev pub PairHolds : KeyedRow → KeyedRow → ℤ → List Value → Type 0
PairHolds first second day values =
    (first.key ≡ second.key) × InPeriod first.period day × InPeriod second.period day
    × (first.values.now ++ second.values.now ≡ values)

-- a pair of a row of this side and one of the other, the left side's first
abbrev pub SidedPair : Side → KeyedRow → KeyedRow → ℤ → List Value → Type 0
SidedPair Left row other day values = PairHolds row other day values
SidedPair Right row other day values = PairHolds other row day values

-- the values of a pair of the row and a row of the list
abbrev pub InPairsWith : KeyedRow → List KeyedRow → ℤ → List Value → Type 0
InPairsWith row others day values =
    (other : KeyedRow) × Contains others other × SidedPair row.side row other day values

-- the values of a pair of a left and a right row of the list
abbrev pub InPairs : List KeyedRow → ℤ → List Value → Type 0
InPairs rows day values =
    (first : KeyedRow) × (second : KeyedRow) × Contains rows first × Contains rows second
    × (first.side ≡ Left) × (second.side ≡ Right) × PairHolds first second day values

-- ---- rows that are added

-- a row that begins with these values can meet all conditions
abbrev pub CanMeet : List Cond → List Value → Type 0
CanMeet conjuncts values = (rest : List Value) × IsTrue (meets_all conjuncts (values ++ rest))

-- the new rows are the old ones and some of the set: at least those that can meet the conditions
pub record Adds (conjuncts : List Cond) (InSet : ℤ → List Value → Type 0)
    (old new : List PeriodRow) : Type 0 where
  pub kept : (day : ℤ) (values : List Value) → InSnapshot old day values
      → InSnapshot new day values
  pub sound : (day : ℤ) (values : List Value) → InSnapshot new day values
      → InSnapshot old day values ⊎ InSet day values
  pub complete : (day : ℤ) (values : List Value) → InSet day values → CanMeet conjuncts values
      → InSnapshot new day values

-- ---- the order of a sweep

-- b does not come before a by their keys, nor by their first days if their keys are the same
abbrev pub Follows : KeyedRow → KeyedRow → Type 0
Follows a b =
    (is_lt (key_cmp b.key a.key) ≡ false) × (a.key ≡ b.key → a.period.start ≤ℤ b.period.start)

-- the first row has another key than the second, or ends before that begins
abbrev pub HasExpired : KeyedRow → KeyedRow → Type 0
HasExpired other row = other.key ≡ row.key → other.period.end ≤ℤ row.period.start
