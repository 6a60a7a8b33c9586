use Rattle.period_keys.proofs.Blocks.{others_kept}
use Rattle.period_keys.proofs.block.Block.replace.Goals as goal

pub returns-clause-others : goal.returns-clause-others
returns-clause-others c = λ other there.
    others_kept c.args.self.now.items.items c.in-Some.at (record { period = c.args.item.now.period; place = c.args.place }) c.args.item.now other c.in-Some.ensures.0 c.in-Some.ensures.1 there
