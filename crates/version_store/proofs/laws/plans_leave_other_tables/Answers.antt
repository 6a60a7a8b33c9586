use Rattle.version_store.proofs.Spared.{other_tables}
use Rattle.version_store.proofs.laws.plans_leave_other_tables.Goals as goal

pub returns : goal.returns
returns c = other_tables
