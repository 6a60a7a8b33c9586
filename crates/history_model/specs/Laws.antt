-- Histories with one more event. Each law is the contract of a function of this crate.
use Rattle.std.specs.Prelude.{◌≡◌, ◌↔◌, ◌++◌, ◌∷◌, ◌≤ℤ◌, ◌<ℤ◌, [], ℕ, ℤ, List, Contains}
use Rattle.std.specs.Prelude.{IsPermutation, map}
use Rattle.std.specs.List.{All}
use Rattle.period_core.specs.Moments.{forever}
use Rattle.period_core.specs.declared.value.Value.{Value}
use Rattle.period_core.specs.declared.version.VersionRow.{VersionRow}
use Rattle.period_core.specs.declared.window.Window.{Window}
use Rattle.temporal_model.specs.Snapshot.{values_on}
use Rattle.catalog_core.specs.declared.change.Change.{Change}
use Rattle.catalog_core.specs.declared.table.TableDef.{TableDef}
use Rattle.history_model.specs.Effects.{effect}
use Rattle.history_model.specs.Histories.{Advanced, Queried, Changed, Created, Database, Event}
use Rattle.history_model.specs.Histories.{History, IsInOrder, catalog_of, clock_of, opened}
use Rattle.history_model.specs.Histories.{state_at, versions_in, with_event}
use Rattle.history_model.specs.HistoryVersions.{AreVersionsOf}
use Rattle.history_model.specs.Represents.{IsChangedBy, HasVersionsOf, IsRecord, Represents}
use Rattle.history_model.specs.SystemWindows.{SeesThrough}
use Rattle.history_model.specs.Versions.{IsRecorded, current, row_of, values_at, values_seen}

-- the clock is the same after one more event
abbrev pub KeepsClock : History → Event → Type 0
KeepsClock history event = clock_of (with_event history event) ≡ clock_of history

-- the catalog is the same after one more event
abbrev pub KeepsCatalog : History → Event → Type 0
KeepsCatalog history event = catalog_of (with_event history event) ≡ catalog_of history

-- the state at each moment is the same after one more event
abbrev pub KeepsStates : History → Event → Type 0
KeepsStates history event =
    (moment : ℤ) (table : ℕ) (day : ℤ)
    → state_at (with_event history event) moment table day ≡ state_at history moment table day

-- whatever a database holds, it represents the history that opens with it
abbrev pub OpeningsAreRepresented : Type 0
OpeningsAreRepresented = (database : Database) → Represents (opened database) database

-- a changed database represents the history with one more change, as of every moment; it is as a
-- store may have it, and what the history leaves
abbrev pub ChangesAreRepresented : Type 0
ChangesAreRepresented =
    (history : History) (old new : Database) (change : Change) → IsChangedBy change old new
    → (IsRecord old → Represents history old
    → Represents (with_event history (Changed old.clock change)) new × IsRecord new)
    × (HasVersionsOf history old
    → HasVersionsOf (with_event history (Changed old.clock change)) new)

-- the versions that a history leaves of a table hold its state as of every moment on every day
abbrev pub VersionsHoldTheStates : Type 0
VersionsHoldTheStates =
    (history : History) (table : ℕ) (versions : List VersionRow) → IsInOrder history
    → AreVersionsOf history table versions → (moment day : ℤ) → moment <ℤ forever
    → IsPermutation (values_at versions moment day) (state_at history moment table day)

-- a history leaves one list of versions of a table, up to its order
abbrev pub HistoriesLeaveOneList : Type 0
HistoriesLeaveOneList =
    (history : History) (table : ℕ) (versions others : List VersionRow)
    → AreVersionsOf history table versions → AreVersionsOf history table others
    → IsPermutation versions others

-- a reference sees through a window, of the versions of a history, each row of the states
-- that the window looks at, and nothing else
abbrev pub WindowsSeeStates : Type 0
WindowsSeeStates =
    (history : History) (database : Database) → IsRecord database → Represents history database
    → (window : Window) (table : ℕ) (day : ℤ) (values : List Value)
    → (Contains (values_seen window (versions_in database table) day) values
    ↔ SeesThrough history window day table values)

-- if the versions are as a store with this clock may have them, the current ones hold on each
-- day what all of them hold as of the clock, and as of each later moment
abbrev pub CurrentVersionsHold : Type 0
CurrentVersionsHold =
    (clock : ℤ) (versions : List VersionRow) → All (IsRecorded clock) versions
    → (moment day : ℤ) → clock ≤ℤ moment → moment <ℤ forever
    → values_at versions moment day ≡ values_on (map row_of (current versions)) day

-- AT moves the clock, and keeps the catalog and all states
abbrev pub AdvancesMoveTheClock : Type 0
AdvancesMoveTheClock =
    (history : History) (moment : ℤ)
    → (clock_of (with_event history (Advanced moment)) ≡ moment)
    × KeepsCatalog history (Advanced moment) × KeepsStates history (Advanced moment)

-- a creation adds its definition at the end of the catalog, and keeps the clock and all states
abbrev pub CreationsAddTables : Type 0
CreationsAddTables =
    (history : History) (definition : TableDef)
    → (catalog_of (with_event history (Created definition)) ≡ catalog_of history ++ definition ∷ [])
    × KeepsClock history (Created definition) × KeepsStates history (Created definition)

-- from its moment on a change has its effect on each table's rows on each day
abbrev pub ChangesTakeEffect : Type 0
ChangesTakeEffect =
    (history : History) (at : ℤ) (change : Change) (moment : ℤ) (table : ℕ) (day : ℤ)
    → at ≤ℤ moment
    → state_at (with_event history (Changed at change)) moment table day
    ≡ effect change table day (state_at history moment table day)

-- no change is seen before its moment, nor in the clock or the catalog
abbrev pub EarlierStatesStay : Type 0
EarlierStatesStay =
    (history : History) (at : ℤ) (change : Change)
    → KeepsClock history (Changed at change) × KeepsCatalog history (Changed at change)
    × ((moment : ℤ) (table : ℕ) (day : ℤ) → moment <ℤ at
    → state_at (with_event history (Changed at change)) moment table day
    ≡ state_at history moment table day)

-- a query keeps the clock, the catalog and all states
abbrev pub QueriesChangeNothing : Type 0
QueriesChangeNothing =
    (history : History)
    → KeepsClock history Queried × KeepsCatalog history Queried × KeepsStates history Queried
