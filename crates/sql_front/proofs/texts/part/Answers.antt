use Rattle.std.proofs.Common.{arith}
use Rattle.std.proofs.lemmas.Bool.Decides.{nat_tests}
use Rattle.sql_front.proofs.Quotes.{no_cut, last_cut, closing_cut, doubled_cut}
use Rattle.sql_front.proofs.texts.part.Goals as goal

pub returns-in_default-clause-value : goal.returns-in_default-clause-value
returns-in_default-clause-value c = no_cut c.args.rest.now c.in_default.ensures.cases

pub returns-in_default-split_once-clause-value : goal.returns-in_default-split_once-clause-value
returns-in_default-split_once-clause-value c = last_cut c.args.rest.now (c.in-Some.before, c.in-Some.after) c.in-Some.ensures.cases c.in_default-split_once.ensures.cases

pub returns-then-is_empty-clause-value : goal.returns-then-is_empty-clause-value
returns-then-is_empty-clause-value c = doubled_cut c.args.rest.now (c.in-Some.before, c.in-Some.after) (c.in-Some-split_once.between, c.in-Some-split_once.more) c.in-Some.ensures.cases c.in-Some-split_once.ensures.cases (grind (arith, nat_tests, c.if-is_empty.ensures))

pub returns-clause-value : goal.returns-clause-value
returns-clause-value c = closing_cut c.args.rest.now (c.in-Some.before, c.in-Some.after) (c.in-Some-split_once.between, c.in-Some-split_once.more) c.in-Some.ensures.cases c.in-Some-split_once.ensures.cases (grind (arith, nat_tests, c.if-is_empty.ensures))
