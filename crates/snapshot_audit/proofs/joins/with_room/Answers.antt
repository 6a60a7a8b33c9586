use Rattle.std.proofs.Common.{List, sym, subst}
use Rattle.period_core.specs.declared.row.PeriodRow.{PeriodRow}
use Rattle.temporal_model.specs.Snapshot.{Equivalent}
use Rattle.snapshot_audit.proofs.joins.with_room.Goals as goal

pub returns : goal.returns
returns c =
    let shorter : List PeriodRow = c.into_vec-shorter.result.items in
    let same : Equivalent c.args.rows.items shorter = subst (λ (l : List PeriodRow). Equivalent c.args.rows.items l) (sym c.into_vec-shorter.ensures) c.in_ok-staggered.ensures.same in
    subst (λ (l : List PeriodRow). Equivalent c.args.rows.items l) (sym c.in_ok-reserve.ensures.items) same
