use Rattle.script_engine.proofs.NotedFacts.{changes_end_or_forget}
use Rattle.script_engine.proofs.laws.changes_end_or_forget.Goals as goal

pub returns : goal.returns
returns c = changes_end_or_forget
