use Rattle.std.proofs.Common.{take, false, true}
use Rattle.std.specs.List.{All}
use Rattle.sequenced_ops.specs.Planning.{IsTruth}
use Rattle.sequenced_ops.proofs.refutation.+known_truth.Given as goal

abbrev pub decreases-known_truth : goal.decreases-known_truth
decreases-known_truth l = goal.size-known_truth l

-- each of the parts so far is known not to hold
abbrev pub invariant-loop-part : goal.invariant-loop-part
invariant-loop-part l =
    All (λ part. IsTruth l.start l.values part false) (take l.part-index l.part-items)

-- each of the parts so far is known to hold
abbrev pub invariant-loop-part-2 : goal.invariant-loop-part-2
invariant-loop-part-2 l =
    All (λ part. IsTruth l.start l.values part true) (take l.part-index l.part-items)
