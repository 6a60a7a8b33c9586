-- The versions that a plan leaves as they were. Each law is the contract of a function here.
use Rattle.std.specs.Prelude.{◌≡◌, ℕ, ℤ, List, filter, not}
use Rattle.period_core.specs.declared.row.PeriodRow.{PeriodRow}
use Rattle.period_core.specs.declared.version.VersionRow.{VersionRow}
use Rattle.version_store.specs.Contents.{Contents, of_table}
use Rattle.version_store.specs.Changed.{ended_at, is_ended, planned}

-- a plan of a table leaves the versions of every other table
abbrev pub PlansLeaveOtherTables : Type 0
PlansLeaveOtherTables =
    (table other : ℕ) (moment : ℤ) (ended : List VersionRow) (added : List PeriodRow)
    (c : Contents) → (other ≡ table → ⊥)
    → of_table other (planned table moment ended added c).versions ≡ of_table other c.versions

-- the versions that a plan does not end stay
abbrev pub OthersStay : Type 0
OthersStay =
    (table : ℕ) (moment : ℤ) (ended : List VersionRow) (c : Contents)
    → filter (λ v. not (is_ended table ended v)) (ended_at table moment ended c).versions
    ≡ filter (λ v. not (is_ended table ended v)) c.versions
