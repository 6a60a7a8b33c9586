use Rattle.std.proofs.Common.{◌≡◌, List, take, subst, arith}
use Rattle.std.specs.List.{All}
use Rattle.std.proofs.lemmas.List.{take_all}
use Rattle.std.proofs.lemmas.List.Elements.{All-more}
use Rattle.period_keys.specs.Between.{LiesBetween}
use Rattle.period_keys.specs.declared.placed_period.PlacedPeriod.{PlacedPeriod}
use Rattle.period_keys.proofs.Blocks.{wider}
use Rattle.period_keys.proofs.block.bounds.Goals as goal

pub loop-item-preserved : goal.loop-item-preserved
loop-item-preserved c =
    let items : List PlacedPeriod = c.args.items.now in
    let item : PlacedPeriod = c.item-item.result in
    All-more (LiesBetween c.lower-start.result c.upper-end.result) items c.loop-item.item-index item (omega arith)
    (wider c.loop-item.start c.loop-item.end c.lower-start.result c.upper-end.result (take c.loop-item.item-index items) c.lower-start.ensures.one c.upper-end.ensures.one c.loop-item.invariant)
    (subst (LiesBetween c.lower-start.result c.upper-end.result) c.item-item.is (c.lower-start.ensures.other, c.upper-end.ensures.other))

pub returns : goal.returns
returns c = let all : take c.loop-item.item-index c.args.items.now ≡ c.args.items.now = take_all _ _ (omega arith) in
    subst (All (LiesBetween c.loop-item.start c.loop-item.end)) all c.loop-item.invariant
