-- Databases that represent a history, and the database after a change.
use Rattle.std.specs.Prelude.{◌≡◌, ◌==◌, ◌<ℤ◌, ℕ, ℤ, IsPermutation, length}
use Rattle.std.specs.List.{All}
use Rattle.period_core.specs.Moments.{forever}
use Rattle.catalog_core.specs.declared.change.Change.{Change}
use Rattle.history_model.specs.Histories.{Database, History, catalog_of, clock_of, state_at}
use Rattle.history_model.specs.Histories.{versions_in}
use Rattle.history_model.specs.HistoryVersions.{AreVersionsOf, AppliesActionIf}
use Rattle.history_model.specs.Versions.{IsRecorded, values_at}

-- the database keeps the history: its clock, its tables, and as of each moment on each day
-- the rows of each table, each as often
pub record Represents (history : History) (database : Database) : Type 0 where
  pub clock : database.clock ≡ clock_of history
  pub catalog : database.catalog ≡ catalog_of history
  pub daily : (table : ℕ) (moment day : ℤ) → moment <ℤ forever
      → IsPermutation
      (values_at (versions_in database table) moment day) (state_at history moment table day)

-- the versions of each table are those that the history leaves of it, up to their order
abbrev pub HasVersionsOf : History → Database → Type 0
HasVersionsOf history database =
    (table : ℕ) → AreVersionsOf history table (versions_in database table)

-- the clock is before FOREVER, each table has its versions, and each version is as a store with
-- this clock may have it
pub record IsRecord (database : Database) : Type 0 where
  pub before : database.clock <ℤ forever
  pub lists : length database.versions ≡ length database.catalog
  pub recorded : (table : ℕ) → All (IsRecorded database.clock) (versions_in database table)

-- a change is made at the clock: it makes its table's versions, and all else is unchanged
pub record IsChangedBy (change : Change) (old new : Database) : Type 0 where
  pub clock : new.clock ≡ old.clock
  pub catalog : new.catalog ≡ old.catalog
  pub lists : length new.versions ≡ length old.versions
  pub versions : (table : ℕ)
      → AppliesActionIf (table == change.table) old.clock change.action
      (versions_in old table) (versions_in new table)
