use Rattle.script_engine.proofs.TimedFacts.{timed_runs_are_runs}
use Rattle.script_engine.proofs.laws.timed_runs_are_runs.Goals as goal

pub returns : goal.returns
returns c = timed_runs_are_runs
