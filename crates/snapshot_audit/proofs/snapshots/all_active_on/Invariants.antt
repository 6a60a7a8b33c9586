use Rattle.std.proofs.Common.{take}
use Rattle.snapshot_audit.specs.ActiveRows.{AllAreActive}
use Rattle.snapshot_audit.proofs.snapshots.all_active_on.Given as goal

abbrev pub invariant-loop-table : goal.invariant-loop-table
invariant-loop-table l = AllAreActive (take l.table-index l.table-items) l.seen.items l.day
