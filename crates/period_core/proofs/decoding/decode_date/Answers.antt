use Rattle.std.proofs.Common.{◌∷◌, List, ℕ, ap, arith}
use Rattle.jiff_core.proofs.SignedLemmas.{signed_arith}
use Rattle.period_core.proofs.ReadingFacts.{date-read}
use Rattle.period_core.proofs.decoding.decode_date.Goals as goal

pub returns-in-Some-new-clause-found : goal.returns-in-Some-new-clause-found
returns-in-Some-new-clause-found c =
    let (front, behind, long) = c.in-Some.ensures.cases in
    let sum = c.in-Some-checked_add_unsigned.ensures in
    let same = c.in-Some-new.ensures.value in
    ap (λ (bytes : List ℕ). 3 ∷ bytes) (date-read c.from_be_bytes-places.result c.in-Some-new.day c.in-Some.places.now c.in-Some.rest.now c.args.bytes.now
    (λ i. let byte = c.type_inv.bytes i in omega arith) front behind long c.from_be_bytes-places.ensures (omega (arith, signed_arith, sum, same)))
