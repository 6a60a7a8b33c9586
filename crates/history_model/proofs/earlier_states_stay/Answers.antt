use Rattle.std.proofs.Common.{◌∙◌, append-nil}
use Rattle.history_model.specs.Histories.{Changed, catalog_of}
use Rattle.history_model.proofs.HistoryLemmas.{catalog_of-event, clock_of-event, state_at-changed_earlier}
use Rattle.history_model.proofs.earlier_states_stay.Goals as goal

pub returns : goal.returns
returns c = λ history at change. (clock_of-event history (Changed at change), catalog_of-event history (Changed at change) ∙ append-nil (catalog_of history), state_at-changed_earlier history at change)
