-- Snapshots day by day: which days matter, and between which nothing changes.
use Rattle.std.proofs.Common.{◌≤ℤ◌, ◌<ℤ◌, ℤ, List, arith}
use Rattle.std.proofs.lemmas.Int.{ints, by_lt_z}
use Rattle.period_core.specs.declared.value.Value.{Value}
use Rattle.period_core.specs.declared.row.PeriodRow.{PeriodRow}
use Rattle.temporal_model.specs.Snapshot.{InSnapshot, IsDay}
use Rattle.temporal_model.specs.Laws.{AgreementOnDaysSuffices, ConstantBetweenChanges}
use Rattle.temporal_model.proofs.Snapshots.{held, in_snapshot}

-- rows hold on days only, and on no other number
pub InSnapshot-IsDay :
    (rows : List PeriodRow) (day : ℤ) (values : List Value)
    → InSnapshot rows day values → IsDay day
InSnapshot-IsDay rows day values h =
    let (row, c, v, (from, to)) = held rows day values h in
    let days = row.period.days in
    (omega (arith, ints, days.0.0), omega (arith, ints, days.1.1))

pub agreement_on_days : AgreementOnDaysSuffices
agreement_on_days xs ys same day values = (
  λ h. (same day values (InSnapshot-IsDay xs day values h)).0 h,
  λ h. (same day values (InSnapshot-IsDay ys day values h)).1 h,
)

-- snapshots stay the same from one day to another if no row begins or ends between them
pub constant_between : ConstantBetweenChanges
constant_between rows first second order none values = (
  λ h.
      let (row, c, v, (from, to)) = held rows first values h in
      in_snapshot rows second values (row, c, v, (omega (arith, ints), (none row c).1 to)),
  λ h.
      let (row, c, v, (from, to)) = held rows second values h in
      in_snapshot rows first values
      (row, c, v, (by_lt_z {P = row.period.start ≤ℤ first} first row.period.start (λ later. absurd (let after : second <ℤ row.period.start = (none row c).0 later in omega (arith, ints))) (λ upto. upto), omega (arith, ints))),
)
