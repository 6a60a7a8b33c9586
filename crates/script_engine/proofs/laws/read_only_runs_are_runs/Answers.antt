use Rattle.script_engine.proofs.ReadOnlyFacts.{read_only_runs_are_runs}
use Rattle.script_engine.proofs.laws.read_only_runs_are_runs.Goals as goal

pub returns : goal.returns
returns c = read_only_runs_are_runs
