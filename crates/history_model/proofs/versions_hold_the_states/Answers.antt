use Rattle.history_model.proofs.HistoryVersionFacts.{left_hold}
use Rattle.history_model.proofs.versions_hold_the_states.Goals as goal

pub returns : goal.returns
returns c = left_hold
