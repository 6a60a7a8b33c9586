use Rattle.std.proofs.Common.{◌≡◌, take}
use Rattle.period_keys.proofs.key.copies_of.Given as goal

abbrev pub invariant-loop-value : goal.invariant-loop-value
invariant-loop-value l = l.own.items ≡ take l.value-index l.values
