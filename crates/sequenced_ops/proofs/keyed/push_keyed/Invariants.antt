use Rattle.std.proofs.Common.{take}
use Rattle.sequenced_ops.proofs.JoinRows.{KeyedMore}
use Rattle.sequenced_ops.proofs.keyed.push_keyed.Given as goal

abbrev pub invariant-loop-row : goal.invariant-loop-row
invariant-loop-row l = KeyedMore l.side l.columns l.fn.keyed.items l.keyed.items (take l.row-index l.rows)
