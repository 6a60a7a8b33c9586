use Rattle.std.proofs.Common.{take}
use Rattle.period_keys.specs.Placed.{ArePlaced}
use Rattle.period_keys.proofs.period_blocks.PeriodBlocks.of.Given as goal

abbrev pub invariant-loop-place : goal.invariant-loop-place
invariant-loop-place l = ArePlaced (take l.place l.rows) l.placed
