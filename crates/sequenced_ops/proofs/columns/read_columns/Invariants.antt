use Rattle.std.proofs.Common.{take}
use Rattle.sequenced_ops.specs.Operations.{ReadsColumns}
use Rattle.sequenced_ops.proofs.columns.read_columns.Given as goal

abbrev pub invariant-loop-column : goal.invariant-loop-column
invariant-loop-column l = ReadsColumns (take l.column-index l.columns) l.values l.read.items
