use Rattle.std.proofs.Common.{◌≡◌, arith, pos, to_z, w64}
use Rattle.std.proofs.lemmas.Int.{to_z_pos}
use Rattle.jiff_core.proofs.SignedLemmas.{signed_arith}
use Rattle.period_core.specs.Moments.{time_number}
use Rattle.period_core.proofs.moment.Moment.from_parts.Goals as goal

-- the time of day is the same number in the signed type
time_is : (c : goal.After-from-5) →
    to_z w64 (time_number c.from.result c.from-2.result c.from-3.result c.from-4.result)
    ≡ pos (time_number c.from.result c.from-2.result c.from-3.result c.from-4.result)
time_is c = to_z_pos w64 _ (omega (arith, c.from.ensures, c.from-2.ensures, c.from-3.ensures, c.from-4.ensures))

pub invariant_of-result : goal.invariant_of-result
invariant_of-result c =
    let day = c.number.ensures in
    let wide = c.from-5.ensures in
    let time = time_is c in
    (omega (arith, signed_arith, day, wide, time), omega (arith, signed_arith, day, wide, time))

pub returns-clause-value : goal.returns-clause-value
returns-clause-value c =
    let day = c.number.ensures in
    let date = c.in_ok-date.ensures.value in
    omega (arith, signed_arith, day, date, c.from-5.ensures, time_is c)
