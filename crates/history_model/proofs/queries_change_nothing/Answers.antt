use Rattle.std.proofs.Common.{◌∙◌, append-nil}
use Rattle.history_model.specs.Histories.{Queried, catalog_of}
use Rattle.history_model.proofs.HistoryLemmas.{catalog_of-event, clock_of-event, state_at-event}
use Rattle.history_model.proofs.queries_change_nothing.Goals as goal

pub returns : goal.returns
returns c = λ history. (clock_of-event history Queried, catalog_of-event history Queried ∙ append-nil (catalog_of history), state_at-event history Queried)
