-- The law of change days. It is the contract of a function of this crate.
use Rattle.std.specs.Prelude.{◌∷◌, ◌≤ℤ◌, ◌<ℤ◌, ℤ, List, Contains}
use Rattle.period_core.specs.declared.row.PeriodRow.{PeriodRow}
use Rattle.temporal_model.specs.Snapshot.{InSnapshot}
use Rattle.catalog_core.specs.query.Queries.{Query}
use Rattle.history_model.specs.OrdinaryQuery.{InAnswerOver}
use Rattle.snapshot_audit.specs.ChangeDays.{AreChangeDays, seen_lists}
use Rattle.snapshot_audit.specs.Verdicts.{HaveSameMembers}

-- none of the days comes after the first day and up to the second
abbrev pub NoneBetween : List ℤ → ℤ → ℤ → Type 0
NoneBetween days first second = (day : ℤ) → Contains days day → first <ℤ day → second <ℤ day

-- the query's set and the list's snapshot are the same on both days
pub record StaySame (query : Query) (tables : List (List PeriodRow)) (rows : List PeriodRow)
    (first second : ℤ) : Type 0 where
  pub set : HaveSameMembers (InAnswerOver query tables first) (InAnswerOver query tables second)
  pub snapshot : HaveSameMembers (InSnapshot rows first) (InSnapshot rows second)

-- between two neighbouring change days, and after the last, every query's set and the list's
-- snapshot stay the same
abbrev pub ConstantBetweenChangeDays : Type 0
ConstantBetweenChangeDays =
    (query : Query) (tables : List (List PeriodRow)) (rows : List PeriodRow) (days : List ℤ)
    → AreChangeDays (rows ∷ seen_lists query tables) days
    → (first second : ℤ) → first ≤ℤ second → NoneBetween days first second
    → StaySame query tables rows first second
