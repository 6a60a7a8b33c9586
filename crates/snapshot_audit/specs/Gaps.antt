-- Lists of rows in order, with a gap between any two of the same values.
use Rattle.std.specs.Prelude.{◌≡◌, ◌<ℤ◌, List, AllPairs}
use Rattle.std.specs.declared.cmp.Ordering.TheVariants.{Less}
use Rattle.period_core.specs.declared.row.PeriodRow.{PeriodRow}
use Rattle.temporal_model.specs.Answer.{answer_cmp}

-- the first row precedes the second, and if they have the same values,
-- it ends before the second begins
abbrev pub IsBeforeWithGap : PeriodRow → PeriodRow → Type 0
IsBeforeWithGap first second =
    (answer_cmp first second ≡ Less)
    × (first.values ≡ second.values → first.period.end <ℤ second.period.start)

-- a gap is between each row and each later one
abbrev pub HasGaps : List PeriodRow → Type 0
HasGaps = AllPairs IsBeforeWithGap
