-- Periods between two days, and periods that share a day.
use Rattle.std.specs.Prelude.{◌≤ℤ◌, ◌<ℤ◌, ℤ}
use Rattle.period_core.specs.declared.period.Period.{Period}
use Rattle.period_keys.specs.declared.placed_period.PlacedPeriod.{PlacedPeriod}

-- the period starts no earlier than the first day, and ends no later than the second
abbrev pub LiesBetween : ℤ → ℤ → PlacedPeriod → Type 0
LiesBetween start end item = (start ≤ℤ item.period.start) × (item.period.end ≤ℤ end)

-- the two share a day
abbrev pub Meets : Period → Period → Type 0
Meets one other = (one.start <ℤ other.end) × (other.start <ℤ one.end)
