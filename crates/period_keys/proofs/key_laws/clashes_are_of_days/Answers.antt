use Rattle.period_keys.proofs.ByDays.{clashes_of_days}
use Rattle.period_keys.proofs.key_laws.clashes_are_of_days.Goals as goal

pub returns : goal.returns
returns c = clashes_of_days
