use Rattle.std.proofs.Common.{sym}
use Rattle.statement_resolution.proofs.lemmas.judged.FaultSums.{either_none}
use Rattle.statement_resolution.proofs.comparison.resolve_side.Goals as goal

pub returns-in_ok-copy-in-Literal-clause-judged : goal.returns-in_ok-copy-in-Literal-clause-judged
returns-in_ok-copy-in-Literal-clause-judged c = rw c.in-Literal.is (sym (either_none c.args.found.now))
