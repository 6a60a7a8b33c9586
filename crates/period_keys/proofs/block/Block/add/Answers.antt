use Rattle.std.proofs.Common.{subst, sym}
use Rattle.std.specs.List.{All}
use Rattle.period_keys.specs.Between.{LiesBetween}
use Rattle.period_keys.proofs.Blocks.{wider_with}
use Rattle.period_keys.proofs.block.Block.add.Goals as goal

pub invariant_of-self : goal.invariant_of-self
invariant_of-self c = record { within = subst (All (LiesBetween c.args.self.now.start c.args.self.now.end)) (sym c.in_err-push.ensures.items) c.args.self.now.within }

pub invariant_of-self-2 : goal.invariant_of-self-2
invariant_of-self-2 c = record {
  within = wider_with c.args.self.now.start c.args.self.now.end c.lower-self.result c.upper-self.result c.args.self.now.items.items c.push.new.self.items c.args.item.now
      c.lower-self.ensures.one c.upper-self.ensures.one (c.lower-self.ensures.other, c.upper-self.ensures.other) c.args.self.now.within c.in_ok-push.ensures.items;
}
