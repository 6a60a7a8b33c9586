use Rattle.std.proofs.Common.{length, take}
use Rattle.snapshot_audit.proofs.SelectSteps.{HasRests}
use Rattle.snapshot_audit.proofs.selects.+add_rest.Given as goal

abbrev pub decreases-add_rest : goal.decreases-add_rest
decreases-add_rest l = length l.references.now

abbrev pub invariant-loop-next : goal.invariant-loop-next
invariant-loop-next l = HasRests l.seen l.select l.more l.front l.fn.rows.items (take l.next-index l.next-items) l.rows.items
