-- The periods of keys, as they are looked up: in an index, or among a table's rows by its key.
use Rattle.std.specs.Prelude.{◌++◌, List, map}
use Rattle.period_core.specs.declared.period.Period.{Period}
use Rattle.period_core.specs.declared.value.Value.{Value}
use Rattle.period_keys.specs.declared.periods_by_key.PeriodsByKey.{PeriodsByKey}
use Rattle.period_keys.specs.declared.periods_by_key.PeriodsByKey.TheVariants.{Index, OfRows}
use Rattle.period_keys.specs.declared.periods_of_key.PeriodsOfKey.{PeriodsOfKey}
use Rattle.period_keys.specs.declared.periods_of_key.PeriodsOfKey.TheVariants.{InRuns, OfGroup}
use Rattle.period_keys.specs.Index.{periods_at}
use Rattle.period_keys.specs.Rows.{RowsByKey, rows_of_key}
use Rattle.period_keys.specs.Versions.{period_of}

-- the periods of one key
abbrev pub periods_of : PeriodsOfKey → List Period
periods_of (InRuns first second) = first.now ++ second.now
periods_of (OfGroup group) = map period_of group.now.rows.items

-- the periods of a table's rows with this key
abbrev pub periods_of_rows : RowsByKey → List Value → List Period
periods_of_rows table key = map period_of (rows_of_key table key)

-- the periods of a key
abbrev pub periods_by : PeriodsByKey → List Value → List Period
periods_by (Index index) key = periods_at index.now key
periods_by (OfRows current) key = periods_of_rows current.now key
