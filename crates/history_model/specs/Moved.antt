-- The opening of a store that once counted its moments in whole seconds: what it held then, in
-- moments, and what that store's versions held.
use Rattle.std.specs.Prelude.{◌≡◌, ◌⊎◌, ◌&&◌, ◌<ℤ◌, ◌≤ℤ◌, ℕ, ℤ, Bool, List, filter, map}
use Rattle.std.specs.List.{All}
use Rattle.std.specs.Ordering.{int_eq}
use Rattle.period_core.specs.Seconds.{last_second, moved_end, second_start}
use Rattle.period_core.specs.Windows.{window_sees}
use Rattle.period_core.specs.declared.value.Value.{Value}
use Rattle.period_core.specs.declared.version.VersionRow.{VersionRow}
use Rattle.period_core.specs.declared.window.Window.{Window}
use Rattle.period_core.specs.declared.window.Window.TheVariants.{AsOf, Between, FromTo, Now}
use Rattle.temporal_model.specs.Snapshot.{covers_day}
use Rattle.history_model.specs.Histories.{Database, IsInOrder, opened, state_at, versions_in}
use Rattle.history_model.specs.Versions.{values_at, values_seen}

-- a version whose system time was counted in seconds, in moments: the open end stays open
abbrev pub moved_version : VersionRow → VersionRow
moved_version v = record v { from = second_start v.from; to = moved_end v.to }

-- a database in seconds, in moments: the clock and the system time of each version;
-- the tables are the same
abbrev pub moved : Database → Database
moved database = record {
  clock = second_start database.clock;
  catalog = database.catalog;
  versions = map (map moved_version) database.versions;
}

-- ---- the values that versions held, and that windows saw of them, in seconds

-- whether a window in seconds sees a version from `from` on and before `to`, with the open end that
-- it had then
abbrev pub second_sees : Window → ℤ → ℤ → Bool
second_sees Now from to = int_eq to last_second
second_sees (AsOf m) from to = window_sees (AsOf m) from to
second_sees (FromTo a b) from to = window_sees (FromTo a b) from to
second_sees (Between a b) from to = window_sees (Between a b) from to

-- the values of the versions that the window in seconds sees and whose period holds the day
abbrev pub values_seen_then : Window → List VersionRow → ℤ → List (List Value)
values_seen_then window versions day =
    map (λ (v : VersionRow). v.values)
    (filter (λ (v : VersionRow).
    second_sees window v.from v.to && covers_day v.period.start v.period.end day) versions)

-- a window in seconds, in moments: each second is the moment at which it begins
abbrev pub moved_window : Window → Window
moved_window Now = Now
moved_window (AsOf m) = AsOf (second_start m)
moved_window (FromTo a b) = FromTo (second_start a) (second_start b)
moved_window (Between a b) = Between (second_start a) (second_start b)

-- the window begins before the open end that versions had in seconds
abbrev pub BeginsBeforeOpenEnd : Window → Type 0
BeginsBeforeOpenEnd Now = Unit {0}
BeginsBeforeOpenEnd (AsOf m) = m <ℤ last_second
BeginsBeforeOpenEnd (FromTo a b) = a <ℤ last_second
BeginsBeforeOpenEnd (Between a b) = a <ℤ last_second

-- a version as a store in seconds with this clock might have it
pub record IsRecordedThen (clock : ℤ) (v : VersionRow) : Type 0 where
  pub lasts : v.from <ℤ v.to
  pub begun : v.from ≤ℤ clock
  pub ended : (v.to ≡ last_second) ⊎ (v.to ≤ℤ clock)

-- ---- the law

-- the state of the moved opening at each whole second is what the versions held at that second
abbrev pub MovedStatesStay : Type 0
MovedStatesStay =
    (database : Database) (second : ℤ) → second <ℤ last_second → (table : ℕ) (day : ℤ)
    → state_at (opened (moved database)) (second_start second) table day
    ≡ values_at (versions_in database table) second day

-- a window sees of a moved history's versions what it saw in seconds, whatever second it ends with
abbrev pub MovedWindowsStay : Type 0
MovedWindowsStay =
    (database : Database) (window : Window) → BeginsBeforeOpenEnd window → (table : ℕ) (day : ℤ)
    → values_seen (moved_window window) (versions_in (moved database) table) day
    ≡ values_seen_then window (versions_in database table) day

-- an opening that a store in seconds might keep is, in moments, a history in order
abbrev pub MovedOpeningsAreInOrder : Type 0
MovedOpeningsAreInOrder =
    (database : Database) → database.clock <ℤ last_second
    → ((table : ℕ) → All (IsRecordedThen database.clock) (versions_in database table))
    → IsInOrder (opened (moved database))
