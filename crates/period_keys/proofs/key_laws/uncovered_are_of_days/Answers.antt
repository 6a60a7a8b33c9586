use Rattle.period_keys.proofs.ByDays.{uncovered_of_days}
use Rattle.period_keys.proofs.key_laws.uncovered_are_of_days.Goals as goal

pub returns : goal.returns
returns c = uncovered_of_days
