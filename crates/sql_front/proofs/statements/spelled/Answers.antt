use Rattle.sql_statements.specs.Lexemes.{lexemes}
use Rattle.sql_front.proofs.Parsing.{read_is_spelled, unread_is_none}
use Rattle.sql_front.proofs.statements.spelled.Goals as goal

pub returns-clause-found : goal.returns-clause-found
returns-clause-found c = read_is_spelled (lexemes c.args.tokens.now) c.read_all.result c.read_all.ensures

pub returns-clause-none : goal.returns-clause-none
returns-clause-none c = unread_is_none (lexemes c.args.tokens.now) c.read_all.result c.read_all.ensures
