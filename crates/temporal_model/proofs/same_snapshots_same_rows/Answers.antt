use Rattle.temporal_model.proofs.Certificate.{same_rows}
use Rattle.temporal_model.proofs.same_snapshots_same_rows.Goals as goal

pub returns : goal.returns
returns c = same_rows
