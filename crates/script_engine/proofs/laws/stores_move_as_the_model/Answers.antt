use Rattle.script_engine.proofs.Moved.{move_alike}
use Rattle.script_engine.proofs.laws.stores_move_as_the_model.Goals as goal

pub returns : goal.returns
returns c = move_alike
