use Rattle.std.proofs.Common.{◌≡◌, ◌⊎◌}
use Rattle.period_keys.specs.declared.placed_period.PlacedPeriod.{PlacedPeriod}
use Rattle.period_keys.specs.Placed.{HasPlaced}
use Rattle.period_keys.proofs.period_blocks.PeriodBlocks.take_out.Given as goal

abbrev pub invariant-loop-at : goal.invariant-loop-at
invariant-loop-at l = (other : PlacedPeriod) → HasPlaced l.fn.self other → (other ≡ l.item) ⊎ HasPlaced l.self other
