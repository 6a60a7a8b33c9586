use Rattle.std.proofs.Common.{take}
use Rattle.snapshot_audit.specs.ActiveRows.{AreActive}
use Rattle.snapshot_audit.proofs.snapshots.active_on.Given as goal

abbrev pub invariant-loop-row : goal.invariant-loop-row
invariant-loop-row l = AreActive (take l.row-index l.rows) l.active.items l.day
