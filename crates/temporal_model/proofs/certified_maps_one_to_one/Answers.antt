use Rattle.temporal_model.proofs.OneToOne.{maps_one_to_one}
use Rattle.temporal_model.proofs.certified_maps_one_to_one.Goals as goal

pub returns : goal.returns
returns c = maps_one_to_one
