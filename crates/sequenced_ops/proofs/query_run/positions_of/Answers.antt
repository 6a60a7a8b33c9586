use Rattle.std.proofs.Common.{ℕ, arith, refl}
use Rattle.temporal_model.proofs.ListSteps.{mapped_more}
use Rattle.catalog_core.specs.declared.query.AnswerColumn.{AnswerColumn}
use Rattle.sequenced_ops.proofs.query_run.positions_of.Goals as goal

pub loop-item-preserved : goal.loop-item-preserved
loop-item-preserved c =
    let position : AnswerColumn → ℕ = λ item. item.position in
    mapped_more position c.args.items.now c.loop-item.item-index c.item-item.result c.item-item.result.position c.loop-item.columns.items c.push.new.self.items
    (omega arith) c.item-item.is refl c.loop-item.invariant c.in_ok-push.ensures.items
