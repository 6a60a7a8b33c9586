use Rattle.std.specs.Global.{Vec}
use Rattle.period_core.specs.declared.row.PeriodRow.{PeriodRow}
use Rattle.sequenced_ops.proofs.Gathered.{selects_more}
use Rattle.sequenced_ops.proofs.Logic.{if_ok_weaker}
use Rattle.sequenced_ops.proofs.outputs.select_more.Goals as goal

pub returns : goal.returns
returns c =
    if_ok_weaker c.union.result _ _
    (λ (rows : Vec PeriodRow) all. selects_more c.args.conjuncts.now c.args.columns.now c.args.selected.items c.in_ok-roomy.roomy.items c.args.pairs.now
    c.in_ok-more.more.items rows.items c.in_ok-roomy.ensures c.in_ok-more.ensures all)
    c.union.ensures
