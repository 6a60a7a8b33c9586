use Rattle.history_model.proofs.MovedFacts.{in_order, states_stay, windows_stay}
use Rattle.history_model.proofs.moves_keep_the_states.Goals as goal

pub returns : goal.returns
returns c = record { states = states_stay; windows = windows_stay; order = in_order }
