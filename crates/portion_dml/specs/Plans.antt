-- Plans: which current versions a change ends, which rows it adds, and what they make.
use Rattle.std.specs.Prelude.{◌≡◌, ◌++◌, ℤ, List, IsPermutation, filter, flat_map, map}
use Rattle.period_core.specs.declared.row.PeriodRow.{PeriodRow}
use Rattle.period_core.specs.declared.version.VersionRow.{VersionRow}
use Rattle.temporal_model.specs.Snapshot.{values_on}
use Rattle.catalog_core.specs.declared.change.Action.{Action}
use Rattle.catalog_core.specs.declared.change.Action.TheVariants.{Delete, Insert, Update}
use Rattle.catalog_core.specs.declared.change.Plan.{Plan}
use Rattle.history_model.specs.Effects.{rows_after}
use Rattle.history_model.specs.HistoryVersions.{begun_at, closed_at}
use Rattle.history_model.specs.Portions.{PlainRow, added, plain_row, touches}
use Rattle.history_model.specs.Versions.{plain_version, row_of}

-- ---- the forms of changes

-- the action of an INSERT
abbrev pub IsInsert : Action → Type 0
IsInsert (Insert given) = Unit {0}
IsInsert (Update portion assignments condition) = ⊥
IsInsert (Delete portion condition) = ⊥

-- the action of an UPDATE
abbrev pub IsUpdate : Action → Type 0
IsUpdate (Insert given) = ⊥
IsUpdate (Update portion assignments condition) = Unit {0}
IsUpdate (Delete portion condition) = ⊥

-- the action of a DELETE
abbrev pub IsDelete : Action → Type 0
IsDelete (Insert given) = ⊥
IsDelete (Update portion assignments condition) = ⊥
IsDelete (Delete portion condition) = Unit {0}

-- ---- the plan of a change

-- a version's values over its period, with no proof inside
abbrev pub version_row : VersionRow → PlainRow
version_row version = plain_row (row_of version)

-- the plan ends the versions that the action touches, in their order, and adds the action's rows
pub record Plans (action : Action) (current : List VersionRow) (plan : Plan) : Type 0 where
  pub ended : plan.ended ≡ filter (λ (v : VersionRow). touches action (version_row v)) current
  pub added : map plain_row plan.added ≡ added action (map version_row plan.ended)

-- ---- the rows that would be current after a plan

-- the plan ends rows of the list, each once, in any order
pub record EndsRows (current : List VersionRow) (plan : Plan) : Type 0 where
  pub stay : List VersionRow
  pub taken : IsPermutation current (plan.ended ++ stay)

-- the current rows after a plan: the rows of the versions that it does not end, and those it adds
pub record AreLeftCurrent (current : List VersionRow) (plan : Plan) (rows : List PeriodRow)
    : Type 0 where
  pub stay : List VersionRow
  pub taken : IsPermutation current (plan.ended ++ stay)
  pub rest : IsPermutation rows (map row_of stay ++ plan.added)

-- on each day the second rows are what the action makes of the first, each as often as it is traced
abbrev pub HaveEffect : Action → List PeriodRow → List PeriodRow → Type 0
HaveEffect action before after =
    (day : ℤ) → IsPermutation (values_on after day) (rows_after action day (values_on before day))

-- ---- the versions after a plan

-- the plan is applied at a moment: the versions that it ends are taken out, each once, and closed;
-- the rest stay, and the added rows begin
pub record Applies (moment : ℤ) (plan : Plan) (old new : List VersionRow) : Type 0 where
  pub stay : List VersionRow
  pub taken : IsPermutation old (plan.ended ++ stay)
  pub made : IsPermutation (map plain_version new)
      (map plain_version stay
      ++ (flat_map (closed_at moment) (map plain_version plan.ended)
      ++ map (begun_at moment) (map plain_row plan.added)))
