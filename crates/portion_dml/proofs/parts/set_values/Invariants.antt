use Rattle.std.proofs.Common.{◌≡◌, take}
use Rattle.history_model.specs.Effects.{with_set}
use Rattle.portion_dml.proofs.parts.set_values.Given as goal

abbrev pub invariant-loop-set : goal.invariant-loop-set
invariant-loop-set l = l.changed.items ≡ with_set (take l.set-index l.assignments) l.values
