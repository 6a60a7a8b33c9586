use Rattle.history_model.proofs.Changes.{change_represented}
use Rattle.history_model.proofs.changes_are_represented.Goals as goal

pub returns : goal.returns
returns c = λ history old new change changed. change_represented history old new change changed
