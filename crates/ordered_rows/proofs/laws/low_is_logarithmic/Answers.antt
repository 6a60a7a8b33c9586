use Rattle.ordered_rows.proofs.Heights.{logarithmic}
use Rattle.ordered_rows.proofs.laws.low_is_logarithmic.Goals as goal

pub returns : goal.returns
returns c = logarithmic
