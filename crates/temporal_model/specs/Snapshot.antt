-- The snapshot of a list of period rows on a day. A day is its number.
use Rattle.std.specs.Prelude.{◌↔◌, ◌≤ℤ◌, ◌<ℤ◌, ℤ}
use Rattle.std.specs.Prelude.{List, Contains, filter, map}
use Rattle.period_core.specs.Calendar.{first_day, last_day}
pub use Rattle.period_core.specs.PeriodPredicates.{covers_day}
use Rattle.period_core.specs.declared.value.Value.{Value}
use Rattle.period_core.specs.declared.row.PeriodRow.{PeriodRow}

-- the values of the rows that hold on the day, row by row
abbrev pub values_on : List PeriodRow → ℤ → List (List Value)
values_on rows day =
    map (λ (row : PeriodRow). row.values)
    (filter (λ (row : PeriodRow). covers_day row.period.start row.period.end day) rows)

-- the snapshot of the rows on a day, as a set: the values that some row of the list holds on it
abbrev pub InSnapshot : List PeriodRow → ℤ → List Value → Type 0
InSnapshot rows day values = Contains (values_on rows day) values

-- the two lists have the same snapshot on every day: they are snapshot-equivalent
abbrev pub Equivalent : List PeriodRow → List PeriodRow → Type 0
Equivalent xs ys =
    (day : ℤ) (values : List Value) → (InSnapshot xs day values ↔ InSnapshot ys day values)

-- the days that a period can cover: 0001-01-01 to 9999-12-30, since 9999-12-31 is only an end
abbrev pub IsDay : ℤ → Type 0
IsDay day = (first_day ≤ℤ day) × (day <ℤ last_day)

-- neither end of the row lies after the first day and up to the second
abbrev pub NoEndBetween : ℤ → ℤ → PeriodRow → Type 0
NoEndBetween first second row =
    (first <ℤ row.period.start → second <ℤ row.period.start)
    × (first <ℤ row.period.end → second <ℤ row.period.end)

-- no row of the list begins or ends after the first day and up to the second
abbrev pub NoChangeBetween : List PeriodRow → ℤ → ℤ → Type 0
NoChangeBetween rows first second =
    (row : PeriodRow) → Contains rows row → NoEndBetween first second row
