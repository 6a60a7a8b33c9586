use Rattle.std.proofs.Common.{take}
use Rattle.sequenced_ops.proofs.KeptRows.{IsKept}
use Rattle.sequenced_ops.proofs.pruning.copy_pruned.Given as goal

abbrev pub invariant-loop-row : goal.invariant-loop-row
invariant-loop-row l = IsKept l.conjuncts l.start (take l.row-index l.rows) l.kept.items
