-- The place of one row relative to another in a sweep over ordered rows without overlaps.
use Rattle.std.specs.Prelude.{◌≡◌, ◌↔◌, ◌⊎◌, ◌≤ℤ◌, ◌<ℤ◌, ℤ, List, AllPairs}
use Rattle.std.specs.declared.cmp.Ordering.TheVariants.{Less}
use Rattle.period_core.specs.Order.{values_cmp}
use Rattle.period_core.specs.declared.value.Value.{Value}
use Rattle.period_core.specs.declared.row.PeriodRow.{PeriodRow}
use Rattle.temporal_model.specs.Snapshot.{InSnapshot}
use Rattle.sequenced_ops.specs.declared.relative_positions.RelativePosition.{RelativePosition}
use Rattle.sequenced_ops.specs.declared.relative_positions.RelativePosition.TheVariants.{Before}
use Rattle.sequenced_ops.specs.declared.relative_positions.RelativePosition.TheVariants.{After}
use Rattle.sequenced_ops.specs.declared.relative_positions.RelativePosition.TheVariants.{Overlapping}

-- the row holds the values on the day
abbrev pub RowHolds : PeriodRow → ℤ → List Value → Type 0
RowHolds row day values =
    (row.values ≡ values) × (row.period.start ≤ℤ day) × (day <ℤ row.period.end)

-- the first row has lesser values, or the same values and ends before the second begins
abbrev pub Precedes : PeriodRow → PeriodRow → Type 0
Precedes a b =
    (values_cmp a.values b.values ≡ Less)
    ⊎ ((a.values ≡ b.values) × (a.period.end ≤ℤ b.period.start))

-- rows in order, and without overlaps of value-equivalent rows
abbrev pub IsDisjoint : List PeriodRow → Type 0
IsDisjoint = AllPairs Precedes

-- the two rows have the same values, and a day
abbrev pub Overlaps : PeriodRow → PeriodRow → Type 0
Overlaps a b =
    (a.values ≡ b.values)
    × (a.period.start <ℤ b.period.end) × (b.period.start <ℤ a.period.end)

-- the position of the first row, relative to the second
abbrev pub IsRelativePosition : RelativePosition → PeriodRow → PeriodRow → Type 0
IsRelativePosition Before row other = Precedes row other
IsRelativePosition After row other = Precedes other row
IsRelativePosition Overlapping row other = Overlaps row other

-- the rest of a list holds the values of the list in each row that this one precedes, on its days
abbrev pub KeepsLater : PeriodRow → List PeriodRow → List PeriodRow → Type 0
KeepsLater row others left =
    (later : PeriodRow) → Precedes row later
    → (day : ℤ) (values : List Value) → RowHolds later day values
    → (InSnapshot others day values ↔ InSnapshot left day values)
