use Rattle.std.proofs.Common.{List}
use Rattle.sequenced_ops.specs.Operations.{Cond}
use Rattle.sequenced_ops.proofs.JoinKeys.{keys_added, meets_at}
use Rattle.sequenced_ops.proofs.key_joins.equalities_of.Goals as goal

pub loop-condition-preserved : goal.loop-condition-preserved
loop-condition-preserved c =
    let conjuncts : List Cond = c.args.conjuncts.now in
    keys_added conjuncts c.args.width c.args.more c.condition-item.result
    c.loop-condition.keys.items c.push_equalities.new.keys.items
    (meets_at conjuncts c.loop-condition.condition-index c.condition-item.result
    c.loop-condition-test.true c.condition-item.is)
    c.loop-condition.invariant c.in_ok-push_equalities.ensures
