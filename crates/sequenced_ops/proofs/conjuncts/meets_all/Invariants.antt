use Rattle.std.proofs.Common.{◌≡◌, true, take}
use Rattle.history_model.specs.OrdinaryQuery.{meets_all}
use Rattle.sequenced_ops.proofs.conjuncts.meets_all.Given as goal

-- each of the conditions so far holds
abbrev pub invariant-loop-condition : goal.invariant-loop-condition
invariant-loop-condition l =
    meets_all (take l.condition-index l.conjuncts) l.values ≡ true
