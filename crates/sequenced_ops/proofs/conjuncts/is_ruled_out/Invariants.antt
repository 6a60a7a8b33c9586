use Rattle.sequenced_ops.proofs.conjuncts.is_ruled_out.Given as goal

-- nothing is known of the conditions so far
abbrev pub invariant-loop-condition : goal.invariant-loop-condition
invariant-loop-condition l = Unit {0}
