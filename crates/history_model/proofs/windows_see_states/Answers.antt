use Rattle.history_model.proofs.Shown.{shown_is_seen}
use Rattle.history_model.proofs.windows_see_states.Goals as goal

pub returns : goal.returns
returns c = shown_is_seen
