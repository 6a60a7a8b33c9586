use Rattle.snapshot_audit.proofs.Staggering.{AreKept}
use Rattle.snapshot_audit.proofs.staggered.staggered.Given as goal

abbrev pub invariant-loop-row : goal.invariant-loop-row
invariant-loop-row l = AreKept l.initial.row-iterator.rest.items l.yielded l.row-iterator.rest.items l.kept.items
