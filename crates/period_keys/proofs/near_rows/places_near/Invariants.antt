use Rattle.std.proofs.Common.{take}
use Rattle.std.specs.List.{Any, Contains}
use Rattle.period_keys.specs.declared.block.Block.{Block}
use Rattle.period_keys.specs.declared.placed_period.PlacedPeriod.{PlacedPeriod}
use Rattle.period_keys.specs.Between.{Meets}
use Rattle.period_keys.proofs.near_rows.places_near.Given as goal

abbrev pub invariant-loop-block : goal.invariant-loop-block
invariant-loop-block l =
    (item : PlacedPeriod) → Any (λ (block : Block). Contains block.items.items item) (take l.block-index l.blocks) → Meets item.period l.period → Contains l.places.items item.place
