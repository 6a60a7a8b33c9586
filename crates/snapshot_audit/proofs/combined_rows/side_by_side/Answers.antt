use Rattle.std.proofs.Common.{[], arith}
use Rattle.temporal_model.proofs.ListSteps.{copied_more}
use Rattle.snapshot_audit.proofs.combined_rows.side_by_side.Goals as goal

pub loop-value-preserved : goal.loop-value-preserved
loop-value-preserved c =
    copied_more [] c.args.first.now c.loop-value.both.items c.push.new.self.items c.loop-value.value-index c.value-item.result c.in_ok-copy.field-0 (omega arith)
    c.value-item.is c.in_ok-copy.ensures c.loop-value.invariant c.in_ok-push.ensures.items

pub loop-value-2-preserved : goal.loop-value-2-preserved
loop-value-2-preserved c =
    copied_more c.args.first.now c.args.second.now c.loop-value-2.both.items c.push-in-loop-value-2.new.self.items c.loop-value-2.value-index
    c.value-item-in-loop-value-2.result c.in_ok-copy-2.field-0 (omega arith) c.value-item-in-loop-value-2.is c.in_ok-copy-2.ensures c.loop-value-2.invariant c.in_ok-push-2.ensures.items
