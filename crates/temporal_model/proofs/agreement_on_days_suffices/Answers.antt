use Rattle.temporal_model.proofs.Days.{agreement_on_days}
use Rattle.temporal_model.proofs.agreement_on_days_suffices.Goals as goal

pub returns : goal.returns
returns c = agreement_on_days
