use Rattle.std.proofs.Common.{◌∙◌, append-nil}
use Rattle.history_model.specs.Histories.{Advanced, catalog_of}
use Rattle.history_model.proofs.HistoryLemmas.{catalog_of-event, clock_of-event, state_at-event}
use Rattle.history_model.proofs.advances_move_the_clock.Goals as goal

pub returns : goal.returns
returns c = λ history moment. (clock_of-event history (Advanced moment), catalog_of-event history (Advanced moment) ∙ append-nil (catalog_of history), state_at-event history (Advanced moment))
