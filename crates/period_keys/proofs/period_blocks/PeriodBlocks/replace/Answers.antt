use Rattle.period_keys.proofs.Blocks.{still}
use Rattle.period_keys.proofs.period_blocks.PeriodBlocks.replace.Goals as goal

pub loop-at-preserved : goal.loop-at-preserved
loop-at-preserved c = λ other there. still (c.loop-at.invariant other there) (λ has. c.replace_in.ensures.others other has)

pub returns-then-replace_in-clause-others : goal.returns-then-replace_in-clause-others
returns-then-replace_in-clause-others c = λ other there. still (c.loop-at.invariant other there) (λ has. c.replace_in.ensures.others other has)
