-- The values that each operator gives on each day, by its arguments' values on that day.
use Rattle.std.specs.Prelude.{◌≡◌, ◌++◌, ◌↔◌, ◌⊎◌, ℕ, ℤ, Bool, List, Option, Some, IsTrue, map}
use Rattle.std.specs.Prelude.{MatchOption, option_to_list, slice_get}
use Rattle.period_core.specs.DaySets.{InPeriod}
use Rattle.period_core.specs.declared.value.Value.{Value}
use Rattle.period_core.specs.declared.row.PeriodRow.{PeriodRow}
use Rattle.temporal_model.specs.Snapshot.{InSnapshot}
use Rattle.sql_statements.specs.declared.tree.Tree.{Tree}
use Rattle.catalog_core.specs.Conditions.{meets}
use Rattle.catalog_core.specs.declared.condition.CompareValues.{CompareValues}

-- a condition over a row's values
abbrev pub Cond : Type 0
Cond = Tree CompareValues

-- on each day the snapshot of the rows is the set of that day
abbrev pub SnapshotsAre : (ℤ → List Value → Type 0) → List PeriodRow → Type 0
SnapshotsAre InSet rows =
    (day : ℤ) (values : List Value) → (InSnapshot rows day values ↔ InSet day values)

-- ---- set operations

-- the values that either side holds on the day
abbrev pub InUnion : List PeriodRow → List PeriodRow → ℤ → List Value → Type 0
InUnion left right day values = InSnapshot left day values ⊎ InSnapshot right day values

-- the values that both sides hold on the day
abbrev pub InIntersection : List PeriodRow → List PeriodRow → ℤ → List Value → Type 0
InIntersection left right day values =
    InSnapshot left day values × InSnapshot right day values

-- the values that the left side holds on the day, and the right side does not
abbrev pub InDifference : List PeriodRow → List PeriodRow → ℤ → List Value → Type 0
InDifference left right day values =
    InSnapshot left day values × (InSnapshot right day values → ⊥)

-- ---- projections

-- a row has a value at each of these positions, and these are they
abbrev pub ReadsColumns : List ℕ → List Value → List Value → Type 0
ReadsColumns columns values read = map (slice_get values) columns ≡ map Some read

-- the values at these positions of a row of the day's set
abbrev pub InProjection :
    List ℕ → (ℤ → List Value → Type 0) → ℤ → List Value → Type 0
InProjection columns InSet day read =
    (values : List Value) × InSet day values × ReadsColumns columns values read

-- ---- selections

-- the values that the rows hold on the day and that meet the condition
abbrev pub InSelection : Cond → List PeriodRow → ℤ → List Value → Type 0
InSelection condition rows day values =
    InSnapshot rows day values × IsTrue (meets condition values)

-- the row holds on the day and meets the condition, and these are its values at the positions
abbrev pub IsSelectedOn : Cond → List ℕ → PeriodRow → ℤ → List Value → Type 0
IsSelectedOn condition columns row day read =
    InPeriod row.period day × IsTrue (meets condition row.values)
    × ReadsColumns columns row.values read

-- after the old rows there is, if the row is accepted and has a value at each position, one row of
-- these values over its period, and else none
pub record AddsProjection (accepts : List Value → Bool) (columns : List ℕ) (row : PeriodRow)
    (old new : List PeriodRow) : Type 0 where
  pub added : Option PeriodRow
  pub behind : new ≡ old ++ option_to_list added
  pub is : MatchOption added
      ((read : List Value) → IsTrue (accepts row.values) → ReadsColumns columns row.values read → ⊥)
      (λ projected. IsTrue (accepts row.values)
      × ReadsColumns columns row.values projected.values × (projected.period ≡ row.period))

-- ---- joins

-- a left and a right row that are held on the day, one after the other
abbrev pub InPairs : List PeriodRow → List PeriodRow → ℤ → List Value → Type 0
InPairs left right day values =
    (first : List Value) × (second : List Value)
    × InSnapshot left day first × InSnapshot right day second × (first ++ second ≡ values)

-- the pairs that meet the condition
abbrev pub InJoin : Cond → List PeriodRow → List PeriodRow → ℤ → List Value → Type 0
InJoin condition left right day values =
    InPairs left right day values × IsTrue (meets condition values)
