use Rattle.std.proofs.Common.{length}
use Rattle.snapshot_audit.proofs.SetSteps.{ArePassed}
use Rattle.snapshot_audit.proofs.set_operations.not_below.Given as goal

abbrev pub invariant-loop-rest : goal.invariant-loop-rest
invariant-loop-rest l = ArePassed l.values l.others l.rest

abbrev pub decreases-loop-rest : goal.decreases-loop-rest
decreases-loop-rest l = length l.rest
