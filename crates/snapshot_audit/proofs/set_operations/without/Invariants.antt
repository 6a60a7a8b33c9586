use Rattle.snapshot_audit.proofs.SetSteps.{ArePicked, Lacks}
use Rattle.snapshot_audit.proofs.set_operations.without.Given as goal

abbrev pub invariant-loop-values : goal.invariant-loop-values
invariant-loop-values l =
    ArePicked (Lacks l.right) l.fn.left.items l.right l.yielded l.values-iterator.rest.items l.others l.set.items
