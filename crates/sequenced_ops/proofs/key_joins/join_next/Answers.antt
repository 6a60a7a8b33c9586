use Rattle.std.proofs.Common.{List}
use Rattle.std.specs.Global.{Vec}
use Rattle.period_core.specs.declared.row.PeriodRow.{PeriodRow}
use Rattle.sequenced_ops.proofs.Gathered.{gives_weaker}
use Rattle.sequenced_ops.proofs.JoinKeys.{all_pairs_pruned}
use Rattle.sequenced_ops.proofs.Logic.{if_ok_weaker}
use Rattle.sequenced_ops.proofs.key_joins.join_next.Goals as goal

pub returns : goal.returns
returns c =
    if_ok_weaker c.join_equal.result _ _
    (λ (next : Vec PeriodRow). gives_weaker _ _ c.args.conjuncts.now c.args.output next.items
    (λ (pairs : List PeriodRow) p. all_pairs_pruned c.args.conjuncts.now c.args.rows.now c.args.others.now pairs p))
    c.join_equal.ensures
