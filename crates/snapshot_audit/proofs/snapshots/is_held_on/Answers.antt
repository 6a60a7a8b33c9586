use Rattle.std.proofs.Common.{◌<◌, ◌≤ℤ◌, ◌<ℤ◌, length, sym, refl, arith, subst, ap, ◌∙◌}
use Rattle.std.proofs.lemmas.Int.{ints}
use Rattle.period_core.specs.declared.row.PeriodRow.{PeriodRow}
use Rattle.temporal_model.proofs.Snapshots.{CoversDay, held, in_snapshot}
use Rattle.snapshot_audit.proofs.snapshots.is_held_on.Goals as goal

pub returns-then-day-number : goal.returns-then-day-number
returns-then-day-number c =
    let below : c.loop-row.row-index < length c.args.rows.now = omega arith in
    let from : c.row-item.result.period.start ≤ℤ c.args.day = omega (arith, ints) in
    let to : c.args.day <ℤ c.row-item.result.period.end = omega (arith, ints) in
    (λ _. in_snapshot c.args.rows.now c.args.day c.args.values.now (c.row-item.result, (c.loop-row.row-index, below, sym c.row-item.is), c.if-eq.ensures.same.0 refl, (from, to)), λ _. refl)

pub returns : goal.returns
returns c = (
  λ e. cc,
  λ h. let (row, (k, inside, at), v, covers) = held c.args.rows.now c.args.day c.args.values.now h in
      let (from, to) = subst (λ r. CoversDay r c.args.day) (sym at) covers in
      absurd (c.loop-row.invariant k row (omega arith) (ap (λ (r : PeriodRow). r.values) at ∙ v) (omega (arith, ints), omega (arith, ints))),
)
