use Rattle.std.proofs.Common.{arith}
use Rattle.period_keys.specs.Keys.{key_values}
use Rattle.temporal_model.proofs.ListSteps.{mapped_more}
use Rattle.period_keys.proofs.changes.keys_of.Goals as goal

pub loop-row-preserved : goal.loop-row-preserved
loop-row-preserved c =
    mapped_more (key_values c.args.positions.now) c.args.rows.now c.loop-row.row-index c.row-item.result c.in_ok-key_of.field-0 c.loop-row.keys.items c.push.new.self.items (omega arith)
    c.row-item.is c.in_ok-key_of.ensures c.loop-row.invariant c.in_ok-push.ensures.items
