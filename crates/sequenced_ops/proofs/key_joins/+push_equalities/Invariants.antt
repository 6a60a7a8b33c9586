use Rattle.sequenced_ops.specs.Planning.{AddsKeys}
use Rattle.sequenced_ops.proofs.key_joins.+push_equalities.Given as goal

abbrev pub decreases-push_equalities : goal.decreases-push_equalities
decreases-push_equalities l = goal.size-push_equalities l

-- the parts so far added keys of the whole condition
abbrev pub invariant-loop-part : goal.invariant-loop-part
invariant-loop-part l = AddsKeys l.condition l.width l.more l.fn.keys.items l.keys.items
