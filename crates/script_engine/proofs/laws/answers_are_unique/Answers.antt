use Rattle.script_engine.proofs.AnswerLaws.{are_unique}
use Rattle.script_engine.proofs.laws.answers_are_unique.Goals as goal

pub returns : goal.returns
returns c = are_unique
