use Rattle.period_keys.proofs.EqualPlaces.{Reached}
use Rattle.period_keys.proofs.fixed_keys.equal_places.Given as goal

abbrev pub invariant-loop-i : goal.invariant-loop-i
invariant-loop-i l = Reached l.conditions l.place l.i l.places.items
