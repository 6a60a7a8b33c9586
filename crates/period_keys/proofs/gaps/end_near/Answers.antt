use Rattle.std.proofs.Common.{◌≡◌, ◌-◌, List, refl, sym, subst, arith}
use Rattle.std.specs.List.{Contains}
use Rattle.std.proofs.lemmas.List.Elements.{Contains-get_or}
use Rattle.period_core.specs.declared.period.Period.{Period}
use Rattle.period_keys.specs.Keys.{IsWithin}
use Rattle.period_keys.proofs.Members.{some_member}
use Rattle.period_keys.proofs.gaps.end_near.Goals as goal

pub returns-then-contains_day : goal.returns-then-contains_day
returns-then-contains_day c =
    let periods : List Period = c.args.periods.now in
    let near : Period = c.index-periods-place.result in
    let there : Contains periods near =
    subst (Contains periods) (sym c.index-periods-place.is) (Contains-get_or periods (c.partition_point-place.result - 1) near (omega (arith, c.partition_point-place.ensures.bound, c.if-place-eq0.false))) in
    some_member (λ (period : Period). IsWithin period c.args.day × (period.end ≡ near.end)) periods near there (c.if-contains_day.ensures.days.0 refl, refl)
