use Rattle.history_model.specs.Histories.{Created}
use Rattle.history_model.proofs.HistoryLemmas.{catalog_of-event, clock_of-event, state_at-event}
use Rattle.history_model.proofs.creations_add_tables.Goals as goal

pub returns : goal.returns
returns c = λ history definition. (catalog_of-event history (Created definition), clock_of-event history (Created definition), state_at-event history (Created definition))
