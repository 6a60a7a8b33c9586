-- The versions that a history leaves, change by change. No state says how rows are cut into
-- periods: this does.
use Rattle.std.specs.Prelude.{◌==◌, ◌&&◌, ◌++◌, ◌∷◌, ℕ, ℤ, Bool, true, false, List, []}
use Rattle.std.specs.Prelude.{IsPermutation, filter, flat_map, fold, map, if◌then◌else◌}
use Rattle.std.specs.Ordering.{int_eq}
use Rattle.period_core.specs.Moments.{forever}
use Rattle.period_core.specs.Windows.{window_sees}
use Rattle.period_core.specs.declared.version.VersionRow.{VersionRow}
use Rattle.period_core.specs.declared.window.Window.TheVariants.{Now}
use Rattle.catalog_core.specs.declared.change.Action.{Action}
use Rattle.history_model.specs.Histories.{Advanced, Queried, Changed, Created, Event, History}
use Rattle.history_model.specs.Histories.{versions_in}
use Rattle.history_model.specs.Portions.{PlainRow, added, touches}
use Rattle.history_model.specs.Versions.{PlainVersion, plain_version}

-- ---- the versions that a change leaves and adds

-- a version without its system time
abbrev pub its_row : PlainVersion → PlainRow
its_row v = record { values = v.values; start = v.start; end = v.end }

-- the version is current, and the action touches its row
abbrev pub is_touched : Action → PlainVersion → Bool
is_touched action v = window_sees Now v.from v.to && touches action (its_row v)

-- a version that is closed at a moment ends then; if it began then it is removed
abbrev pub closed_at : ℤ → PlainVersion → List PlainVersion
closed_at moment v = if int_eq v.from moment then [] else record v { to = moment } ∷ []

-- the rest of a version: closed at the moment if it is touched, and else as it was
abbrev pub remains_of : ℤ → Action → PlainVersion → List PlainVersion
remains_of moment action v = if is_touched action v then closed_at moment v else v ∷ []

-- a row as it is added at a moment: it begins then, and has not ended
abbrev pub begun_at : ℤ → PlainRow → PlainVersion
begun_at moment row = record {
  values = row.values;
  start = row.start;
  end = row.end;
  from = moment;
  to = forever;
}

-- the rows of the versions that the action touches
abbrev pub touched_rows : Action → List PlainVersion → List PlainRow
touched_rows action versions = map its_row (filter (is_touched action) versions)

-- a table's versions after an action at a moment: those that it touches are closed, and
-- the rows that it adds begin
abbrev pub versions_after : ℤ → Action → List PlainVersion → List PlainVersion
versions_after moment action versions =
    flat_map (remains_of moment action) versions
    ++ map (begun_at moment) (added action (touched_rows action versions))

-- ---- the versions that a history leaves

-- a table's versions after an event: a change of another table leaves them
abbrev pub after_event : ℕ → List PlainVersion → Event → List PlainVersion
after_event table versions (Advanced moment) = versions
after_event table versions (Created definition) = versions
after_event table versions (Changed moment change) =
    if table == change.table then versions_after moment change.action versions else versions
after_event table versions Queried = versions

-- a table's versions after the history: the opening's, after each event in turn
abbrev pub versions_of : History → ℕ → List PlainVersion
versions_of history table =
    fold (after_event table) (map plain_version (versions_in history.opening table)) history.events

-- the versions are, up to their order, those that the history leaves of the table
abbrev pub AreVersionsOf : History → ℕ → List VersionRow → Type 0
AreVersionsOf history table versions =
    IsPermutation (map plain_version versions) (versions_of history table)

-- the second versions are, up to their order, what an action makes of the first at a moment
abbrev pub AppliesAction : ℤ → Action → List VersionRow → List VersionRow → Type 0
AppliesAction moment action old new =
    IsPermutation (map plain_version new) (versions_after moment action (map plain_version old))

-- the change of the table is made, and any other leaves its versions
abbrev pub AppliesActionIf : Bool → ℤ → Action → List VersionRow → List VersionRow → Type 0
AppliesActionIf true moment action old new = AppliesAction moment action old new
AppliesActionIf false moment action old new = IsPermutation new old
