-- The rows of a select, step by step: references are joined from left to right, and rows that can
-- no longer meet the conditions go.
use Rattle.std.specs.Prelude.{◌≡◌, ◌++◌, ◌+◌, ◌<◌, ℕ, ℤ, Bool, IsTrue, List, length}
use Rattle.std.specs.List.{All}
use Rattle.period_core.specs.DaySets.{InPeriod}
use Rattle.period_core.specs.declared.row.PeriodRow.{PeriodRow}
use Rattle.period_core.specs.declared.value.Value.{Value}
use Rattle.temporal_model.specs.Snapshot.{InSnapshot}
use Rattle.catalog_core.specs.Conditions.{compares, meets}
use Rattle.catalog_core.specs.declared.condition.CompareValues.{CompareValues}
use Rattle.catalog_core.specs.declared.query.resolved.QueryReference.{QueryReference}
use Rattle.history_model.specs.OrdinaryQuery.{InProduct, VisibleInTables, meets_all}
use Rattle.sequenced_ops.specs.Operations.{Cond, ReadsColumns}
use Rattle.sequenced_ops.specs.Joining.{IsEqual}
use Rattle.sequenced_ops.specs.declared.equalities.Equality.{Equality}

-- ---- rows of which some values are known: those from a position on

-- the truth of the condition, whatever comes before the values and after them
abbrev pub IsTruth : ℕ → List Value → Cond → Bool → Type 0
IsTruth start values condition truth =
    (first rest : List Value) → length first ≡ start
    → meets condition (first ++ (values ++ rest)) ≡ truth

-- the truth of a comparison, whatever comes before the values and after them
abbrev pub IsTestTruth : ℕ → List Value → CompareValues → Bool → Type 0
IsTestTruth start values test truth =
    (first rest : List Value) → length first ≡ start
    → compares (first ++ (values ++ rest)) test ≡ truth

-- no row with these values from the position on meets all conditions
abbrev pub RulesOut : List Cond → ℕ → List Value → Type 0
RulesOut conjuncts start values =
    (first rest : List Value) → length first ≡ start
    → IsTrue (meets_all conjuncts (first ++ (values ++ rest))) → ⊥

-- the rows are of the set, and lack none that can be these values of a row that meets the
-- conditions
pub record IsPruned (conjuncts : List Cond) (start : ℕ) (InSet : ℤ → List Value → Type 0)
    (rows : List PeriodRow) : Type 0 where
  pub sound : (day : ℤ) (values : List Value) → InSnapshot rows day values → InSet day values
  pub complete : (day : ℤ) (first values rest : List Value) → length first ≡ start
      → InSet day values → IsTrue (meets_all conjuncts (first ++ (values ++ rest)))
      → InSnapshot rows day values

-- ---- the number of values of rows

-- each list of values that the rows hold has `width` values
abbrev pub HasWidth : ℕ → List PeriodRow → Type 0
HasWidth width rows =
    (day : ℤ) (values : List Value) → InSnapshot rows day values → length values ≡ width

-- ---- joins

-- the positions are the equality's, in a row of the left side, which has `width` values,
-- and one of the right side, which has `more`
pub record IsColumnPair (width more left right : ℕ) (equality : Equality) : Type 0 where
  pub left_is : equality.left ≡ left
  pub left_within : left < width
  pub right_is : width + equality.right ≡ right
  pub right_within : equality.right < more

-- rows of this and that width which together begin a row that meets the conditions meet the
-- equalities
abbrev pub AreKeys : List Cond → ℕ → ℕ → List Equality → Type 0
AreKeys conjuncts width more equalities =
    (first second rest : List Value) → length first ≡ width → length second ≡ more
    → IsTrue (meets_all conjuncts ((first ++ second) ++ rest))
    → All (IsEqual first second) equalities

-- rows of this and that width which together begin a row that meets the condition meet the
-- equalities after, if they meet those before
abbrev pub AddsKeys : Cond → ℕ → ℕ → List Equality → List Equality → Type 0
AddsKeys condition width more before after =
    (first second rest : List Value) → length first ≡ width → length second ≡ more
    → IsTrue (meets condition ((first ++ second) ++ rest))
    → All (IsEqual first second) before → All (IsEqual first second) after

-- ---- selects

-- the values that the rows hold on the day and that meet all conditions
abbrev pub InMeeting : List Cond → List PeriodRow → ℤ → List Value → Type 0
InMeeting conjuncts rows day values =
    InSnapshot rows day values × IsTrue (meets_all conjuncts values)

-- the row holds on the day and meets all conditions, and these are its values at the positions
abbrev pub IsMeetingOn : List Cond → List ℕ → PeriodRow → ℤ → List Value → Type 0
IsMeetingOn conjuncts columns row day read =
    InPeriod row.period day × IsTrue (meets_all conjuncts row.values)
    × ReadsColumns columns row.values read

-- the rows joined so far, then the references that are left, if each condition holds
abbrev pub InJoined
    : List (List PeriodRow) → List Cond → List PeriodRow → List QueryReference → ℤ → List Value
    → Type 0
InJoined tables conjuncts rows references day values =
    (first : List Value) × (rest : List Value)
    × InSnapshot rows day first × InProduct (VisibleInTables tables day) references rest
    × (first ++ rest ≡ values) × IsTrue (meets_all conjuncts values)
