use Rattle.temporal_model.proofs.Certificate.{unique}
use Rattle.temporal_model.proofs.certified_is_unique.Goals as goal

pub returns : goal.returns
returns c = unique
