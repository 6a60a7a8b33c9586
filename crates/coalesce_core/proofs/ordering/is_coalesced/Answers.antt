use Rattle.std.proofs.Common.{arith}
use Rattle.coalesce_core.proofs.Order.{coalesced_as_they_are}
use Rattle.coalesce_core.proofs.ordering.is_coalesced.Goals as goal

pub returns : goal.returns
returns c = λ _. coalesced_as_they_are c.args.rows.now c.loop-i.i (omega arith) c.loop-i.invariant
