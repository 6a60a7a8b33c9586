use Rattle.std.proofs.Common.{◌∷◌, List, ℕ, ap, arith, w64, to_z, of_z}
use Rattle.jiff_core.proofs.SignedLemmas.{signed_arith}
use Rattle.period_core.proofs.ReadingFacts.{integer-read}
use Rattle.period_core.proofs.decoding.decode_integer.Goals as goal

pub returns-clause-found : goal.returns-clause-found
returns-clause-found c =
    let (front, behind, long) = c.in-Some.ensures.cases in
    let sum = rw c.unwrap-number.ensures at c.checked_add_unsigned.ensures in
    ap (λ (bytes : List ℕ). 1 ∷ bytes) (integer-read c.from_be_bytes-places.result (to_z w64 (of_z w64 c.unwrap-number.result)) c.in-Some.places.now c.in-Some.rest.now c.args.bytes.now
    (λ i. let byte = c.type_inv.bytes i in omega arith) front behind long c.from_be_bytes-places.ensures (omega (arith, signed_arith, sum)))
