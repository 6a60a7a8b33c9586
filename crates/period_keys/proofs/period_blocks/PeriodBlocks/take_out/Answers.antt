use Rattle.period_keys.proofs.Blocks.{still}
use Rattle.period_keys.proofs.period_blocks.PeriodBlocks.take_out.Goals as goal

pub loop-at-preserved : goal.loop-at-preserved
loop-at-preserved c = λ other there. still (c.loop-at.invariant other there) (λ has. c.take_from.ensures other has)

pub returns-then-take_from : goal.returns-then-take_from
returns-then-take_from c = λ other there. still (c.loop-at.invariant other there) (λ has. c.take_from.ensures other has)
