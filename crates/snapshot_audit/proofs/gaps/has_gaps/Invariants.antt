use Rattle.std.proofs.Common.{◌≤◌}
use Rattle.snapshot_audit.proofs.Neighbours.{GapsBelow}
use Rattle.snapshot_audit.proofs.gaps.has_gaps.Given as goal

abbrev pub invariant-loop-place : goal.invariant-loop-place
invariant-loop-place l = (1 ≤ l.place) × GapsBelow l.rows l.place
