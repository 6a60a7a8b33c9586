-- Version rows: what they hold as of a moment, which are current, and how a store may record them.
use Rattle.std.specs.Prelude.{◌≡◌, ◌⊎◌, ◌&&◌, ◌<ℤ◌, ◌≤ℤ◌, ◌-ℤ◌, ℤ, pos, Bool, List, filter, map}
use Rattle.period_core.specs.Moments.{forever}
use Rattle.period_core.specs.Windows.{window_sees}
use Rattle.period_core.specs.declared.row.PeriodRow.{PeriodRow}
use Rattle.period_core.specs.declared.value.Value.{Value}
use Rattle.period_core.specs.declared.version.VersionRow.{VersionRow}
use Rattle.period_core.specs.declared.window.Window.{Window}
use Rattle.period_core.specs.declared.window.Window.TheVariants.{AsOf, Now}
use Rattle.temporal_model.specs.Snapshot.{covers_day}

-- the last moment that a clock may show: that before FOREVER
abbrev pub last_moment : ℤ
last_moment = forever -ℤ pos 1

-- the window sees the version, and its period holds the day
abbrev pub is_seen : Window → ℤ → VersionRow → Bool
is_seen window day v =
    window_sees window v.from v.to && covers_day v.period.start v.period.end day

-- the values of the versions that the window sees and whose period holds the day, one by one
abbrev pub values_seen : Window → List VersionRow → ℤ → List (List Value)
values_seen window versions day =
    map (λ (v : VersionRow). v.values) (filter (is_seen window day) versions)

-- the values that the versions hold on a day as of a moment
abbrev pub values_at : List VersionRow → ℤ → ℤ → List (List Value)
values_at versions moment day = values_seen (AsOf moment) versions day

-- the versions that have not ended
abbrev pub current : List VersionRow → List VersionRow
current versions = filter (λ (v : VersionRow). window_sees Now v.from v.to) versions

-- a version without its system time
abbrev pub row_of : VersionRow → PeriodRow
row_of v = record { values = v.values; period = v.period }

-- a version as a store with this clock may have it: it began by then, and it ended by then or not
-- at all
pub record IsRecorded (clock : ℤ) (v : VersionRow) : Type 0 where
  pub lasts : v.from <ℤ v.to
  pub begun : v.from ≤ℤ clock
  pub ended : (v.to ≡ forever) ⊎ (v.to ≤ℤ clock)

-- a row over a period of days and one of moments, with no proof inside
pub record PlainVersion : Type 0 where
  pub values : List Value
  pub start : ℤ
  pub end : ℤ
  pub from : ℤ
  pub to : ℤ

-- a version, as a plain version
abbrev pub plain_version : VersionRow → PlainVersion
plain_version v = record {
  values = v.values;
  start = v.period.start;
  end = v.period.end;
  from = v.from;
  to = v.to;
}
