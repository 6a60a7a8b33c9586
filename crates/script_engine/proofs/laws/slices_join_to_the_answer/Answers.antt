use Rattle.script_engine.proofs.AnswerLaws.{join_to_the_answer}
use Rattle.script_engine.proofs.laws.slices_join_to_the_answer.Goals as goal

pub returns : goal.returns
returns c = join_to_the_answer
