use Rattle.std.proofs.Common.{◌≡◌, take}
use Rattle.sequenced_ops.specs.Joining.{columns_on}
use Rattle.sequenced_ops.proofs.equalities.columns_of.Given as goal

abbrev pub invariant-loop-equality : goal.invariant-loop-equality
invariant-loop-equality l = l.columns.items ≡ columns_on l.side (take l.equality-index l.equalities)
