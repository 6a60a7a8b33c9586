use Rattle.std.proofs.Common.{map}
use Rattle.history_model.specs.Histories.{State}
use Rattle.period_keys.specs.Current.{HoldCurrent, rows_by_key}
use Rattle.period_keys.proofs.StateFacts.{AreLawfulBelow}
use Rattle.period_keys.proofs.lawful_states.is_lawful.Given as goal

abbrev pub invariant-loop-place : goal.invariant-loop-place
invariant-loop-place l = (state : State) → HoldCurrent l.definitions state (map rows_by_key l.tables) → AreLawfulBelow l.definitions state l.place
