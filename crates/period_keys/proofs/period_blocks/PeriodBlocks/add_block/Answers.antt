use Rattle.std.proofs.Common.{List, sym, subst}
use Rattle.std.specs.List.{Contains}
use Rattle.temporal_model.proofs.Members.{Contains-here}
use Rattle.period_keys.specs.declared.placed_period.PlacedPeriod.{PlacedPeriod}
use Rattle.std.proofs.Common.{[]}
use Rattle.period_keys.proofs.Blocks.{Has, in_new_block, more_blocks}
use Rattle.period_keys.proofs.period_blocks.PeriodBlocks.add_block.Goals as goal

pub returns-clause-kept : goal.returns-clause-kept
returns-clause-kept c = λ other there. subst (Has other) (sym c.in_ok-insert.ensures.items) (more_blocks c.args.self.now.blocks.items c.args.at c.in_ok-block.block other there)

pub returns-clause-there : goal.returns-clause-there
returns-clause-there c =
    subst (Has c.args.item.now) (sym c.in_ok-insert.ensures.items) (in_new_block c.args.self.now.blocks.items c.args.at c.in_ok-block.block c.args.item.now
    (subst (λ (xs : List PlacedPeriod). Contains xs c.args.item.now) (sym c.in_ok-block.ensures) (Contains-here c.args.item.now [])))
