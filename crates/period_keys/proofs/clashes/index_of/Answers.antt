use Rattle.std.proofs.Common.{arith}
use Rattle.period_keys.proofs.Indexes.{index_step}
use Rattle.period_keys.proofs.clashes.index_of.Goals as goal

pub loop-row-preserved : goal.loop-row-preserved
loop-row-preserved c =
    index_step c.args.positions.now c.args.rows.now c.loop-row.row-index c.row-item.result c.loop-row.index c.add.new.self c.in_ok-key.key
    (omega arith) c.row-item.is c.in_ok-key.ensures c.in_ok-add.ensures.ok c.loop-row.invariant
