use Rattle.period_keys.proofs.Locality.{clashes_after}
use Rattle.period_keys.proofs.key_laws.clashes_after_change.Goals as goal

pub returns : goal.returns
returns c = clashes_after
