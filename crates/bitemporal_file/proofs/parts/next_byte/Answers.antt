use Rattle.std.proofs.Common.{arith, refl}
use Rattle.bitemporal_file.proofs.parts.next_byte.Goals as goal

pub returns-clause-fault : goal.returns-clause-fault
returns-clause-fault g c = (refl, c.reads.invariant.failed (omega (arith, c.reads-test.false)))
