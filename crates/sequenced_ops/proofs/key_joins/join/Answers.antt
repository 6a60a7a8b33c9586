use Rattle.std.proofs.Common.{◌∷◌, [], List, subst}
use Rattle.std.specs.Global.{Vec}
use Rattle.period_core.specs.declared.row.PeriodRow.{PeriodRow}
use Rattle.sequenced_ops.specs.Operations.{Cond, InPairs}
use Rattle.sequenced_ops.specs.Planning.{IsPruned}
use Rattle.sequenced_ops.proofs.JoinKeys.{joined_snapshots}
use Rattle.sequenced_ops.proofs.Logic.{if_ok_weaker}
use Rattle.sequenced_ops.proofs.key_joins.join.Goals as goal

pub returns : goal.returns
returns c =
    let condition : Cond = c.args.condition.now in
    let left : List PeriodRow = c.args.left.now in
    let right : List PeriodRow = c.args.right.now in
    let pairs : List PeriodRow = c.in_ok-pairs.pairs.items in
    let (all, are, same) = c.in_ok-pairs.ensures in
    let pruned : IsPruned (condition ∷ []) 0 (InPairs left right) pairs =
    subst (λ (l : List Cond). IsPruned l 0 (InPairs left right) pairs) c.from_ref-conjuncts.ensures.value
    (subst (IsPruned c.from_ref-conjuncts.result.now 0 (InPairs left right)) same are) in
    if_ok_weaker c.filter.result _ _
    (λ (rows : Vec PeriodRow) p. joined_snapshots condition left right pairs rows.items pruned p)
    c.filter.ensures
