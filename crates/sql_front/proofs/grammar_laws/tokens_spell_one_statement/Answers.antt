use Rattle.sql_front.proofs.Spelling.{spells_one}
use Rattle.sql_front.proofs.grammar_laws.tokens_spell_one_statement.Goals as goal

pub returns : goal.returns
returns c = spells_one
