use Rattle.std.proofs.Common.{◌≡◌, ◌<◌, length, arith, rules}
use Rattle.period_keys.proofs.Answered.{on_ok}
use Rattle.period_keys.proofs.Blocks.{grown, grown_by}
use Rattle.period_keys.proofs.period_blocks.PeriodBlocks.add_to.Goals as goal

pub returns-clause-kept : goal.returns-clause-kept
returns-clause-kept c =
    let size : c.len.result ≡ length c.args.self.now.blocks.items = search rules in
    let below : c.args.at < length c.args.self.now.blocks.items = omega arith in
    on_ok c.add.result (λ more. λ other there. grown c.args.self.now.blocks.items c.args.at c.index_mut.result.now c.add.new.self c.args.item.now below c.index_mut.ensures.value more other there) c.add.ensures.ok

pub returns-clause-there : goal.returns-clause-there
returns-clause-there c =
    let size : c.len.result ≡ length c.args.self.now.blocks.items = search rules in
    let below : c.args.at < length c.args.self.now.blocks.items = omega arith in
    on_ok c.add.result (λ more. grown_by c.args.self.now.blocks.items c.args.at c.index_mut.result.now c.add.new.self c.args.item.now below more) c.add.ensures.ok
