use Rattle.std.proofs.Common.{ap}
use Rattle.period_keys.specs.declared.placed_period.PlacedPeriod.{PlacedPeriod}
use Rattle.period_keys.proofs.Blocks.{same_placed}
use Rattle.period_keys.proofs.block.is_same.Goals as goal

pub returns-then-one-other : goal.returns-then-one-other
returns-then-one-other c = (
  λ t. same_placed c.args.one.now c.args.other.now c.if-one-other.true (c.is_same_period.ensures.0 t),
  λ e. c.is_same_period.ensures.1 (ap (λ (x : PlacedPeriod). x.period) e),
)
