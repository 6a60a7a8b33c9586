use Rattle.std.proofs.Common.{arith}
use Rattle.period_core.proofs.ReadingFacts.{text-goes_on}
use Rattle.period_core.proofs.decoding.unescape.Goals as goal

pub returns-in-0-default-clause-malformed : goal.returns-in-0-default-clause-malformed
returns-in-0-default-clause-malformed c m text rest e =
    let on = text-goes_on c.bytes.text.items text c.bytes.rest.now rest _ c.bytes.invariant e in
    grind (arith, on.one, on.two, on.which)

pub returns-clause-malformed : goal.returns-clause-malformed
returns-clause-malformed c m text rest e =
    let on = text-goes_on c.bytes.text.items text c.bytes.rest.now rest _ c.bytes.invariant e in
    omega (arith, on.one)
