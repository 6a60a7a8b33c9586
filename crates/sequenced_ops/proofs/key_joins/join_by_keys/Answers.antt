use Rattle.std.proofs.Common.{List, sym, subst}
use Rattle.std.specs.Global.{Vec}
use Rattle.period_core.specs.declared.row.PeriodRow.{PeriodRow}
use Rattle.temporal_model.specs.Snapshot.{InSnapshot}
use Rattle.sequenced_ops.specs.Operations.{Cond, InPairs}
use Rattle.sequenced_ops.specs.Joining.{InEqualPairs}
use Rattle.sequenced_ops.specs.Planning.{AreKeys, IsPruned}
use Rattle.sequenced_ops.specs.declared.equalities.Equality.{Equality}
use Rattle.sequenced_ops.proofs.Gathered.{gives_weaker}
use Rattle.sequenced_ops.proofs.JoinKeys.{pairs_pruned}
use Rattle.sequenced_ops.proofs.Logic.{if_ok_weaker}
use Rattle.sequenced_ops.proofs.KeptRows.{kept_all}
use Rattle.sequenced_ops.proofs.key_joins.join_by_keys.Goals as goal

pub returns-then-rules_some_out : goal.returns-then-rules_some_out
returns-then-rules_some_out c =
    let conjuncts : List Cond = c.args.conjuncts.now in
    let rows : List PeriodRow = c.args.rows.now in
    let others : List PeriodRow = c.args.others.now in
    let width = c.args.width in
    let more = c.args.more in
    let kept : List PeriodRow = c.as_slice.result.now in
    let keys : List Equality = c.as_slice-then-rules_some_out.result.now in
    let are_keys : AreKeys conjuncts width more keys =
    subst (AreKeys conjuncts width more) (sym c.as_slice-then-rules_some_out.ensures.value) c.in_ok-keys.ensures in
    let pruned : IsPruned conjuncts width (InSnapshot others) kept =
    subst (IsPruned conjuncts width (InSnapshot others)) (sym c.as_slice.ensures.value)
    c.in_ok-kept.ensures in
    if_ok_weaker c.join_equal.result _ _
    (λ (next : Vec PeriodRow).
    gives_weaker (IsPruned conjuncts 0 (InEqualPairs keys rows kept))
    (IsPruned conjuncts 0 (InPairs rows others)) conjuncts c.args.output next.items
    (λ (pairs : List PeriodRow) p.
    pairs_pruned conjuncts rows others kept pairs width more keys
    c.requires.left c.requires.right are_keys
    pruned p))
    c.join_equal.ensures

pub returns : goal.returns
returns c =
    let conjuncts : List Cond = c.args.conjuncts.now in
    let rows : List PeriodRow = c.args.rows.now in
    let others : List PeriodRow = c.args.others.now in
    let width = c.args.width in
    let more = c.args.more in
    let keys : List Equality = c.as_slice-2.result.now in
    let are_keys : AreKeys conjuncts width more keys =
    subst (AreKeys conjuncts width more) (sym c.as_slice-2.ensures.value) c.in_ok-keys.ensures in
    if_ok_weaker c.join_equal-2.result _ _
    (λ (next : Vec PeriodRow).
    gives_weaker (IsPruned conjuncts 0 (InEqualPairs keys rows others))
    (IsPruned conjuncts 0 (InPairs rows others)) conjuncts c.args.output next.items
    (λ (pairs : List PeriodRow) p.
    pairs_pruned conjuncts rows others others pairs width more keys
    c.requires.left c.requires.right are_keys
    (kept_all conjuncts width others) p))
    c.join_equal-2.ensures
