use Rattle.std.proofs.Common.{◌≡◌, ◌<◌, length, arith, rules}
use Rattle.period_keys.specs.declared.placed_period.PlacedPeriod.{PlacedPeriod}
use Rattle.period_keys.proofs.Blocks.{changed_block, in_changed, on_true}
use Rattle.period_keys.proofs.period_blocks.PeriodBlocks.replace_in.Goals as goal

pub returns-clause-others : goal.returns-clause-others
returns-clause-others c = λ other there.
    let size : c.len.result ≡ length c.args.self.now.blocks.items = search rules in
    let below : c.args.at < length c.args.self.now.blocks.items = omega arith in
    changed_block c.args.self.now.blocks.items c.args.at c.index_mut.result.now c.replace.new.self (λ (x : PlacedPeriod). x ≡ c.args.item.now) below c.index_mut.ensures.value c.replace.ensures.others other there

pub returns-clause-put : goal.returns-clause-put
returns-clause-put c =
    let size : c.len.result ≡ length c.args.self.now.blocks.items = search rules in
    let below : c.args.at < length c.args.self.now.blocks.items = omega arith in
    on_true c.replace.result (λ here. in_changed c.args.self.now.blocks.items c.args.at c.replace.new.self (record { period = c.args.item.now.period; place = c.args.place }) below here) c.replace.ensures.put
