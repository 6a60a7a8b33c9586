-- Versions with their values as bytes; versions that end; those that a window sees.
use Rattle.std.specs.Prelude.{◌≡◌, ◌≤ℤ◌, ◌∷◌, [], ℕ, ℤ, List, cond, filter, map}
use Rattle.std.specs.List.{All, flat_map}
use Rattle.std.specs.Ordering.{int_eq}
use Rattle.period_core.specs.Encoding.{IsColumnValue, encoded}
use Rattle.period_core.specs.Windows.{window_sees}
use Rattle.period_core.specs.declared.period.Period.{Period}
use Rattle.period_core.specs.declared.version.VersionRow.{VersionRow}
use Rattle.period_core.specs.declared.window.Window.{Window}

-- a version whose values are bytes
pub record PackedVersion : Type 0 where
  pub bytes : List ℕ
  pub period : Period
  pub from : ℤ
  pub to : ℤ

-- a version, with its values as bytes
abbrev pub packed : VersionRow → PackedVersion
packed version = record {
  bytes = encoded version.values;
  period = version.period;
  from = version.from;
  to = version.to;
}

-- the values are such as columns hold: so no two such lists have the same bytes
abbrev pub AreOfColumns : List VersionRow → Type 0
AreOfColumns = All (λ version. All IsColumnValue version.values)

-- the list has these versions, in this order
pub record Hold (list : List PackedVersion) (versions : List VersionRow) : Type 0 where
  pub same : map packed versions ≡ list
  pub held : AreOfColumns versions

-- all versions ended by the moment
abbrev pub AreEndedBy : ℤ → List PackedVersion → Type 0
AreEndedBy moment = All (λ (version : PackedVersion). version.to ≤ℤ moment)

-- the version as one that ended at the moment
abbrev pub ended_at : ℤ → VersionRow → VersionRow
ended_at moment version = record version { to = moment }

-- the record of a version that ends at the moment: none if it began then
abbrev pub closed_row : ℤ → VersionRow → List VersionRow
closed_row moment version = cond (int_eq version.from moment) [] (ended_at moment version ∷ [])

-- the records of some versions that end at the moment
abbrev pub closed_at : ℤ → List VersionRow → List VersionRow
closed_at moment = flat_map (closed_row moment)

-- the versions that the window sees
abbrev pub seen_through : Window → List VersionRow → List VersionRow
seen_through window = filter (λ (version : VersionRow). window_sees window version.from version.to)
