use Rattle.std.proofs.Common.{◌≡◌, map, take}
use Rattle.catalog_core.specs.declared.query.AnswerColumn.{AnswerColumn}
use Rattle.sequenced_ops.proofs.query_run.positions_of.Given as goal

abbrev pub invariant-loop-item : goal.invariant-loop-item
invariant-loop-item l =
    l.columns.items ≡ map (λ (item : AnswerColumn). item.position) (take l.item-index l.items)
