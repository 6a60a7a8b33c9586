use Rattle.temporal_model.proofs.Certificate.{shortest}
use Rattle.temporal_model.proofs.certified_is_shortest.Goals as goal

pub returns : goal.returns
returns c = shortest
