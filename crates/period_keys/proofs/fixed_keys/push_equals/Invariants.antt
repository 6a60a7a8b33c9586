use Rattle.period_keys.proofs.EqualPlaces.{Added}
use Rattle.period_keys.proofs.fixed_keys.push_equals.Given as goal

abbrev pub invariant-loop-condition : goal.invariant-loop-condition
invariant-loop-condition l = Added l.conditions l.known l.condition-index l.fn.places.items l.places.items
