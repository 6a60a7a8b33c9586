use Rattle.std.specs.List.{Contains}
use Rattle.snapshot_audit.proofs.SetSteps.{ArePicked}
use Rattle.snapshot_audit.proofs.set_operations.common.Given as goal

abbrev pub invariant-loop-values : goal.invariant-loop-values
invariant-loop-values l =
    ArePicked (Contains l.right) l.fn.left.items l.right l.yielded l.values-iterator.rest.items l.others l.set.items
