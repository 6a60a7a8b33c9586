use Rattle.std.proofs.Common.{take}
use Rattle.snapshot_audit.specs.Pairs.{Adds, Begun, InAny, InMeetingPair, InPair, Sided}
use Rattle.snapshot_audit.proofs.joins.add_begun.Given as goal

abbrev pub invariant-loop-entry : goal.invariant-loop-entry
invariant-loop-entry l =
    Adds (InAny (Sided (InPair l.select l.output) l.side) (take l.entry-index l.entries) l.others)
    (InAny (Begun (Sided (InMeetingPair l.select l.output) l.side)) (take l.entry-index l.entries) l.others) l.fn.rows.items l.added.items
