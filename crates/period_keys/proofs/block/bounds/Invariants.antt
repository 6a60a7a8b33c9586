use Rattle.std.proofs.Common.{take}
use Rattle.std.specs.List.{All}
use Rattle.period_keys.specs.Between.{LiesBetween}
use Rattle.period_keys.proofs.block.bounds.Given as goal

abbrev pub invariant-loop-item : goal.invariant-loop-item
invariant-loop-item l = All (LiesBetween l.start l.end) (take l.item-index l.items)
