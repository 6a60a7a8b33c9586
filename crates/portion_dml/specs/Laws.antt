-- Laws of plans: what they make of states, and plain cases.
use Rattle.std.specs.Prelude.{◌≡◌, ◌≤ℤ◌, ◌<ℤ◌, ℤ, false, List, [], ◌∷◌, Option, Some, Contains}
use Rattle.std.specs.Prelude.{IsPermutation}
use Rattle.std.specs.List.{All}
use Rattle.period_core.specs.Moments.{forever}
use Rattle.period_core.specs.declared.period.Period.{Period}
use Rattle.period_core.specs.declared.version.VersionRow.{VersionRow}
use Rattle.sql_statements.specs.declared.tree.Tree.{Tree}
use Rattle.catalog_core.specs.declared.change.Action.{Action}
use Rattle.catalog_core.specs.declared.change.Action.TheVariants.{Update}
use Rattle.catalog_core.specs.declared.change.Assignment.{Assignment}
use Rattle.catalog_core.specs.declared.change.Plan.{Plan}
use Rattle.catalog_core.specs.declared.condition.CompareValues.{CompareValues}
use Rattle.history_model.specs.Effects.{inserted_by, rows_after, with_set}
use Rattle.history_model.specs.HistoryVersions.{AppliesAction}
use Rattle.history_model.specs.Portions.{PlainRow, leftovers, replacements, touches}
use Rattle.history_model.specs.Versions.{IsRecorded, current, values_at}
use Rattle.portion_dml.specs.Plans.{Applies, Plans, version_row}

-- a plan of the current versions, applied at a moment
pub record IsApplied (moment : ℤ) (action : Action) (old new : List VersionRow) : Type 0 where
  pub listed : List VersionRow
  pub are_current : IsPermutation (current old) listed
  pub plan : Plan
  pub plans : Plans action listed plan
  pub applies : Applies moment plan old new

-- the plan of a change makes of the versions what the change makes of them
abbrev pub PlansMakeVersions : Type 0
PlansMakeVersions =
    (moment : ℤ) (action : Action) (old new : List VersionRow) → IsApplied moment action old new
    → AppliesAction moment action old new

-- the plan of a change makes of the versions what the change makes of each day's rows, from its
-- moment on; what they held as of an earlier moment stays
abbrev pub PlansTakeEffect : Type 0
PlansTakeEffect =
    (moment : ℤ) (action : Action) (old new : List VersionRow) → IsApplied moment action old new
    → All (IsRecorded moment) old → (at day : ℤ) → at <ℤ forever
    → (moment ≤ℤ at
    → IsPermutation (values_at new at day) (rows_after action day (values_at old at day)))
    × (at <ℤ moment → IsPermutation (values_at new at day) (values_at old at day))

-- an action that gives no rows and touches none has the empty plan
abbrev pub UntouchedPlansAreEmpty : Type 0
UntouchedPlansAreEmpty =
    (action : Action) (current : List VersionRow) (plan : Plan) → Plans action current plan
    → inserted_by action ≡ []
    → All (λ (v : VersionRow). touches action (version_row v) ≡ false) current
    → (plan.ended ≡ []) × (plan.added ≡ [])

-- a row inside the portion is not split
abbrev pub InsidesAreWhole : Type 0
InsidesAreWhole =
    (portion : Period) (assignments : List Assignment) (condition : Option (Tree CompareValues))
    (row : PlainRow)
    → row.start <ℤ row.end → portion.start ≤ℤ row.start → row.end ≤ℤ portion.end
    → replacements (Update (Some portion) assignments condition) row
    ≡ record {
      values = with_set assignments row.values;
      start = row.start;
      end = row.end;
    } ∷ []

-- the leftovers of a row outside the portion keep its values
abbrev pub LeftoversKeepValues : Type 0
LeftoversKeepValues =
    (portion : Option Period) (row left : PlainRow) → Contains (leftovers portion row) left
    → left.values ≡ row.values
