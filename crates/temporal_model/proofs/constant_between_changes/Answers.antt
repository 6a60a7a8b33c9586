use Rattle.temporal_model.proofs.Days.{constant_between}
use Rattle.temporal_model.proofs.constant_between_changes.Goals as goal

pub returns : goal.returns
returns c = constant_between
