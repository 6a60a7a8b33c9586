use Rattle.coalesce_core.proofs.Order.{AreApart}
use Rattle.coalesce_core.proofs.ordering.is_coalesced.Given as goal

abbrev pub invariant-loop-i : goal.invariant-loop-i
invariant-loop-i l = AreApart l.fn.rows l.i
