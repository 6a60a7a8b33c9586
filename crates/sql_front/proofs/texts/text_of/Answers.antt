use Rattle.std.proofs.Common.{sym, ap, ◌∙◌}
use Rattle.sql_front.specs.LiteralValues.{unquoted}
use Rattle.sql_front.proofs.Quotes.{rest_of_none, rest_of_some}
use Rattle.sql_front.proofs.texts.text_of.Goals as goal

pub returns-in-Some : goal.returns-in-Some
returns-in-Some c = rw (rest_of_some c.args.token.now (c.in-Some.field-0-0, c.in-Some.rest) c.in-Some.ensures.cases) c.unquoted_text.ensures

pub returns-in-None : goal.returns-in-None
returns-in-None c = c.new-in-None.ensures ∙ c.new.ensures.bytes ∙ sym (ap unquoted (rest_of_none c.args.token.now c.in-None.ensures.cases))
