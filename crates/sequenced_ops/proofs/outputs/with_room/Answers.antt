use Rattle.std.proofs.Common.{List, sym, subst}
use Rattle.period_core.specs.declared.row.PeriodRow.{PeriodRow}
use Rattle.temporal_model.specs.Snapshot.{Equivalent}
use Rattle.sequenced_ops.proofs.outputs.with_room.Goals as goal

pub returns : goal.returns
returns c =
    subst (λ (l : List PeriodRow). Equivalent c.args.rows.items l) (sym c.in_ok-reserve.ensures.items) c.in_ok-shorter.ensures.equivalent
