use Rattle.std.proofs.Common.{sym}
use Rattle.statement_resolution.proofs.lemmas.judged.FaultSums.{either_none}
use Rattle.statement_resolution.proofs.resolver.resolve_where.Goals as goal

pub returns-in-None-clause-judged : goal.returns-in-None-clause-judged
returns-in-None-clause-judged g c = rw c.in-None.is (sym (either_none c.args.found.now))
