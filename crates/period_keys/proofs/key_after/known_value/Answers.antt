use Rattle.std.proofs.Common.{ℕ, List, arith, get_or, subst}
use Rattle.std.specs.List.{Contains}
use Rattle.std.proofs.lemmas.List.Elements.{Contains-get_or}
use Rattle.period_keys.specs.FixedKeys.{AreSaidEqual}
use Rattle.period_keys.proofs.KeyAfter.{known_holds}
use Rattle.period_keys.proofs.key_after.known_value.Goals as goal

pub returns-in-Some-known_at-clause-held : goal.returns-in-Some-known_at-clause-held
returns-in-Some-known_at-clause-held c =
    let conditions = c.args.conditions.now in
    let known = c.args.known.now in
    let i : ℕ = c.loop-other.other-index in
    let places : List ℕ = c.deref-other-items.result.now in
    let other : ℕ = get_or places i 0 in
    let there : Contains c.in_ok-places.places.items other = subst (λ (l : List ℕ). Contains l other) c.deref-other-items.ensures.value (Contains-get_or places i 0 c.loop-other-test.true) in
    let said : AreSaidEqual conditions c.in-Some.place other = (c.in_ok-places.ensures other).0 there in
    let (index, at, its) = c.in-Some-known_at.ensures in
    known_holds conditions known c.args.at c.args.start c.args.width c.args.position c.in-Some-known_at.value.now index c.in-Some.place other
    c.if-position-width.false (omega (arith, c.in-Some.ensures)) said at its
