-- Version rows: the key of one, its period, and one as it begins.
use Rattle.std.specs.Prelude.{ℕ, ℤ, Bool, List}
use Rattle.std.specs.Ordering.{eq_by_cmp}
use Rattle.period_core.specs.Moments.{forever}
use Rattle.period_core.specs.Order.{values_cmp}
use Rattle.period_core.specs.declared.period.Period.{Period}
use Rattle.period_core.specs.declared.row.PeriodRow.{PeriodRow}
use Rattle.period_core.specs.declared.value.Value.{Value}
use Rattle.period_core.specs.declared.version.VersionRow.{VersionRow}
use Rattle.period_keys.specs.declared.key_range.KeyRange.{KeyRange}
use Rattle.period_keys.specs.Keys.{values_at}
use Rattle.period_keys.specs.Ranges.{is_in_range}

-- a version's values at these positions: its key
abbrev pub version_key : List ℕ → VersionRow → List Value
version_key positions version = values_at positions version.values

-- the version has this key
abbrev pub is_of_key : List ℕ → List Value → VersionRow → Bool
is_of_key positions key version = eq_by_cmp values_cmp key (version_key positions version)

-- the version's key is in the range
abbrev pub has_key_in : List ℕ → KeyRange → VersionRow → Bool
has_key_in positions range version = is_in_range range (version_key positions version)

-- a version's period
abbrev pub period_of : VersionRow → Period
period_of version = version.period

-- values over a period, recorded from one moment on and before another
abbrev pub recorded : List Value → Period → ℤ → ℤ → VersionRow
recorded values period from to =
    record { values = values; period = period; from = from; to = to }

-- a row that begins at a moment, and has not ended
abbrev pub begun : ℤ → PeriodRow → VersionRow
begun moment row = recorded row.values row.period moment forever
