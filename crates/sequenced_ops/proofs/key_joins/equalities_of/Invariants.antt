use Rattle.sequenced_ops.specs.Planning.{AreKeys}
use Rattle.sequenced_ops.proofs.key_joins.equalities_of.Given as goal

abbrev pub invariant-loop-condition : goal.invariant-loop-condition
invariant-loop-condition l = AreKeys l.conjuncts l.width l.more l.keys.items
