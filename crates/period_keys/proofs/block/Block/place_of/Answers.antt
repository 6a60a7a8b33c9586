use Rattle.std.proofs.Common.{◌∙◌, sym, arith}
use Rattle.period_keys.proofs.Blocks.{is_there}
use Rattle.period_keys.proofs.block.Block.place_of.Goals as goal

pub returns-then-is_same : goal.returns-then-is_same
returns-then-is_same c =
    is_there c.as_slice-items.result.now c.args.self.now.items.items c.loop-i.i c.index-items-i.result c.args.item.now c.as_slice-items.ensures.value (omega arith) (sym c.index-items-i.is ∙ c.is_same.ensures.0 c.if-is_same.true)
