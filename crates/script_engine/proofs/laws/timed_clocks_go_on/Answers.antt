use Rattle.script_engine.proofs.TimedFacts.{timed_clocks_go_on}
use Rattle.script_engine.proofs.laws.timed_clocks_go_on.Goals as goal

pub returns : goal.returns
returns c = timed_clocks_go_on
