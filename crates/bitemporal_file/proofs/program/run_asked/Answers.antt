use Rattle.std.proofs.Common.{◌∙◌, refl, sym, true≢false}
use Rattle.bitemporal_file.proofs.program.run_asked.Goals as goal

pub returns-then-asked-clause-done : goal.returns-then-asked-clause-done
returns-then-asked-clause-done g c writes = absurd (true≢false (sym c.if-asked.true ∙ writes))

pub returns-then-asked-clause-read : goal.returns-then-asked-clause-read
returns-then-asked-clause-read g c reads = (c.read_asked.ensures.done, refl)

pub returns-in-Some-clause-done : goal.returns-in-Some-clause-done
returns-in-Some-clause-done g c writes = rw (← c.inspection_of.ensures, c.in-Some.is) (c.inspect_asked.ensures.inspects, refl)

pub returns-in-Some-clause-read : goal.returns-in-Some-clause-read
returns-in-Some-clause-read g c reads = absurd (true≢false (sym reads ∙ c.if-asked.false))

pub returns-clause-done : goal.returns-clause-done
returns-clause-done g c writes = rw (← c.inspection_of.ensures, c.in_default.is) c.run_over.ensures.ran

pub returns-clause-read : goal.returns-clause-read
returns-clause-read g c reads = absurd (true≢false (sym reads ∙ c.if-asked.false))
