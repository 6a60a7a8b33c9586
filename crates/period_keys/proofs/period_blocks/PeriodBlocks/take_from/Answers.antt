use Rattle.std.proofs.Common.{◌≡◌, ◌<◌, length, arith, rules}
use Rattle.period_keys.specs.declared.placed_period.PlacedPeriod.{PlacedPeriod}
use Rattle.period_keys.proofs.Blocks.{changed_block}
use Rattle.period_keys.proofs.period_blocks.PeriodBlocks.take_from.Goals as goal

pub returns : goal.returns
returns c = λ other there.
    let size : c.len.result ≡ length c.args.self.now.blocks.items = search rules in
    let below : c.args.at < length c.args.self.now.blocks.items = omega arith in
    changed_block c.args.self.now.blocks.items c.args.at c.index_mut.result.now c.take_out.new.self (λ (x : PlacedPeriod). x ≡ c.args.item.now) below c.index_mut.ensures.value c.take_out.ensures other there
