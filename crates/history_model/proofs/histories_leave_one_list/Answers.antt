use Rattle.history_model.proofs.HistoryVersionFacts.{one_list}
use Rattle.history_model.proofs.histories_leave_one_list.Goals as goal

pub returns : goal.returns
returns c = one_list
