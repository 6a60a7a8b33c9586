use Rattle.std.proofs.Common.{take}
use Rattle.snapshot_audit.specs.Pairs.{Adds, InEach, InMeetingPair, InPair, Sided}
use Rattle.snapshot_audit.proofs.joins.add_partners.Given as goal

abbrev pub invariant-loop-other : goal.invariant-loop-other
invariant-loop-other l =
    Adds (InEach (Sided (InPair l.select l.output) l.side) l.entry (take l.other-index l.partners))
    (InEach (Sided (InMeetingPair l.select l.output) l.side) l.entry (take l.other-index l.partners)) l.fn.rows.items l.rows.items
