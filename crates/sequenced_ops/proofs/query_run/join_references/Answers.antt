use Rattle.std.proofs.Common.{ℕ, List, sym, subst}
use Rattle.std.specs.Global.{Vec}
use Rattle.period_core.specs.declared.row.PeriodRow.{PeriodRow}
use Rattle.temporal_model.specs.Snapshot.{InSnapshot}
use Rattle.sequenced_ops.specs.Operations.{Cond, InProjection, SnapshotsAre}
use Rattle.sequenced_ops.specs.Planning.{InJoined, IsPruned}
use Rattle.sequenced_ops.proofs.Logic.{if_ok_weaker}
use Rattle.sequenced_ops.proofs.SelectRows.{joined_pruned, projection_same}
use Rattle.sequenced_ops.proofs.query_run.join_references.Goals as goal

pub returns-then-rules_some_out : goal.returns-then-rules_some_out
returns-then-rules_some_out c =
    let tables = c.args.tables.now in
    let conjuncts : List Cond = c.args.conjuncts.now in
    let columns : List ℕ = c.args.columns.now in
    let first : List PeriodRow = c.args.first.now in
    let more = c.args.more.now in
    let kept : List PeriodRow = c.as_slice.result.now in
    let pruned : IsPruned conjuncts 0 (InSnapshot first) kept =
    subst (IsPruned conjuncts 0 (InSnapshot first)) (sym c.as_slice.ensures.value)
    c.in_ok-kept.ensures in
    if_ok_weaker c.join_all.result
    (λ (joined : Vec PeriodRow).
    SnapshotsAre (InProjection columns (InJoined tables conjuncts kept more)) joined.items)
    (λ (joined : Vec PeriodRow).
    SnapshotsAre (InProjection columns (InJoined tables conjuncts first more)) joined.items)
    (λ joined p.
    projection_same columns (InJoined tables conjuncts kept more)
    (InJoined tables conjuncts first more) joined.items
    (joined_pruned tables conjuncts first kept more pruned) p)
    c.join_all.ensures
