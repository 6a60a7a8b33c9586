use Rattle.std.proofs.Common.{refl}
use Rattle.bitemporal_file.proofs.read_only.read_asked.Goals as goal

pub returns-in-Some-clause-done : goal.returns-in-Some-clause-done
returns-in-Some-clause-done g c = rw (← c.inspection_of.ensures, c.in-Some.is) (c.inspect_read.ensures.inspects, refl)

pub returns-clause-done : goal.returns-clause-done
returns-clause-done g c = rw (← c.inspection_of.ensures, c.in_default.is) c.read_over.ensures.ran
