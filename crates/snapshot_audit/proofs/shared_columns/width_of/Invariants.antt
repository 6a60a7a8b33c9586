use Rattle.std.proofs.Common.{take}
use Rattle.snapshot_audit.specs.Keys.{HaveWidth}
use Rattle.snapshot_audit.proofs.shared_columns.width_of.Given as goal

abbrev pub invariant-loop-row : goal.invariant-loop-row
invariant-loop-row l = HaveWidth l.width (take l.row-index l.rows)
