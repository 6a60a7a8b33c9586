use Rattle.std.proofs.Common.{take}
use Rattle.sequenced_ops.specs.Planning.{HasWidth}
use Rattle.sequenced_ops.proofs.key_joins.width_of.Given as goal

abbrev pub invariant-loop-row : goal.invariant-loop-row
invariant-loop-row l = HasWidth l.width (take l.row-index l.rows)
