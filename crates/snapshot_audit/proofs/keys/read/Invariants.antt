use Rattle.std.proofs.Common.{take}
use Rattle.snapshot_audit.specs.Keys.{Reads}
use Rattle.snapshot_audit.proofs.keys.read.Given as goal

abbrev pub invariant-loop-column : goal.invariant-loop-column
invariant-loop-column l = Reads (take l.column-index l.columns) l.values l.key.items
