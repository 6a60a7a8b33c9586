use Rattle.version_store.proofs.Spared.{rest_stays}
use Rattle.version_store.proofs.laws.others_stay.Goals as goal

pub returns : goal.returns
returns c = rest_stays
