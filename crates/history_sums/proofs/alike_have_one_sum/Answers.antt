use Rattle.history_sums.proofs.SumFacts.{alike}
use Rattle.history_sums.proofs.alike_have_one_sum.Goals as goal

pub returns : goal.returns
returns c = alike
