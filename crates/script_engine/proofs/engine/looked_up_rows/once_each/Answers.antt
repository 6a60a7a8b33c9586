use Rattle.temporal_model.proofs.Snapshots.{Equivalent-refl}
use Rattle.script_engine.proofs.engine.looked_up_rows.once_each.Goals as goal

pub returns : goal.returns
returns c = Equivalent-refl c.args.rows.items
