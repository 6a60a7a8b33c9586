use Rattle.history_model.proofs.HistoryLemmas.{represents_opened}
use Rattle.history_model.proofs.openings_are_represented.Goals as goal

pub returns : goal.returns
returns c = represents_opened
