use Rattle.std.proofs.Common.{◌≡◌, ◌≤◌, None}
use Rattle.std.specs.Iterator.{IsFinite, size}
use Rattle.coalesce_core.proofs.Streams.{IsMerging}
use Rattle.coalesce_core.proofs.merging.CoalesceIterator.next.Given as goal

abbrev pub invariant-loop-next : goal.invariant-loop-next
invariant-loop-next g l = record {
  merging : IsMerging g.I.Iterator.next_gives l.initial.row l.initial.self.source l.row l.self.source;
  none : l.self.ahead ≡ None;
  can : g.I.Iterator.can_next l.self.source;
  finite : IsFinite (g.I.Iterator.remaining l.self.source);
  fewer : size (g.I.Iterator.remaining l.self.source) ≤ size (g.I.Iterator.remaining l.initial.self.source);
}

abbrev pub decreases-loop-next : goal.decreases-loop-next
decreases-loop-next g l = size (g.I.Iterator.remaining l.self.source)
