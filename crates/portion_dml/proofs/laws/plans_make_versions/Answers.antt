use Rattle.portion_dml.proofs.Applied.{applied_makes}
use Rattle.portion_dml.proofs.laws.plans_make_versions.Goals as goal

pub returns : goal.returns
returns c = applied_makes
