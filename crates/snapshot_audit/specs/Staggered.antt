-- Rows in the order of their values, and rows of the same values in the order of their starts and
-- of their ends.
use Rattle.std.specs.Prelude.{◌≡◌, ◌⊎◌, ◌-◌, ◌≤ℤ◌, ◌<ℤ◌, ℤ, Bool, true, false, int_lt, List}
use Rattle.std.specs.Prelude.{AllPairs, Some, length, slice_get}
use Rattle.std.specs.declared.cmp.Ordering.TheVariants.{Less}
use Rattle.std.specs.Ordering.{match_ordering}
use Rattle.period_core.specs.Order.{values_cmp}
use Rattle.period_core.specs.declared.value.Value.{Value}
use Rattle.period_core.specs.declared.row.PeriodRow.{PeriodRow}

-- the values of the first row come before the second's, or they are the same, and the first
-- row starts no later and ends earlier
abbrev pub IsStaggered : PeriodRow → PeriodRow → Type 0
IsStaggered row other =
    (values_cmp row.values other.values ≡ Less)
    ⊎ ((row.values ≡ other.values) × (row.period.start ≤ℤ other.period.start)
    × (row.period.end <ℤ other.period.end))

-- each row is staggered with each later one
abbrev pub AreStaggered : List PeriodRow → Type 0
AreStaggered = AllPairs IsStaggered

-- the last of the rows has the same values as this one, and ends no earlier
abbrev pub LastHolds : List PeriodRow → PeriodRow → Type 0
LastHolds rows row =
    (last : PeriodRow) × (slice_get rows (length rows - 1) ≡ Some last)
    × (last.values ≡ row.values) × (row.period.end ≤ℤ last.period.end)

-- whether the first values come before the second, or are the same and start before the day
abbrev pub comes_before : List Value → ℤ → List Value → ℤ → Bool
comes_before values start others day =
    match_ordering (values_cmp values others) true (int_lt start day) false
