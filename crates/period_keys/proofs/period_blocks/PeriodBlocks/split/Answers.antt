use Rattle.std.proofs.Common.{◌+◌, sym, subst}
use Rattle.period_keys.proofs.Blocks.{Has, cut_block}
use Rattle.period_keys.proofs.period_blocks.PeriodBlocks.split.Goals as goal

pub returns : goal.returns
returns c = λ other there.
    subst (Has other) (sym c.in_ok-insert.ensures.items)
    (cut_block c.args.self.now.blocks.items c.args.at (c.args.at + 1) c.index_mut.result.now c.cut.new.self c.in_ok-later.later c.requires c.index_mut.ensures.value (λ x here. c.in_ok-later.ensures x here) other there)
