use Rattle.script_engine.proofs.AnswerLaws.{same_answers}
use Rattle.script_engine.proofs.laws.same_snapshots_same_answers.Goals as goal

pub returns : goal.returns
returns c = same_answers
