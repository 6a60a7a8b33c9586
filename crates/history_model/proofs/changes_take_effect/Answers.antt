use Rattle.history_model.proofs.HistoryLemmas.{state_at-changed_later}
use Rattle.history_model.proofs.changes_take_effect.Goals as goal

pub returns : goal.returns
returns c = state_at-changed_later
