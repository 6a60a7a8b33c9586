use Rattle.script_engine.proofs.AnswerLaws.{map_one_to_one}
use Rattle.script_engine.proofs.laws.answers_map_one_to_one.Goals as goal

pub returns : goal.returns
returns c = map_one_to_one
