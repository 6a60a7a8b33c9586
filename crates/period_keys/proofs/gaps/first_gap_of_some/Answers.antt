use Rattle.std.proofs.Common.{◌≡◌, ◌≤ℤ◌, ℤ, List, take, subst, arith}
use Rattle.std.specs.List.{Any}
use Rattle.std.proofs.lemmas.Int.{ints, by_lt_z}
use Rattle.std.proofs.lemmas.List.{take_all}
use Rattle.period_core.specs.declared.period.Period.{Period}
use Rattle.period_keys.specs.Keys.{IsLeastOf}
use Rattle.period_keys.specs.Gaps.{IsGap, IsHeld}
use Rattle.period_keys.specs.LookUps.{periods_of}
use Rattle.period_keys.proofs.GapSteps.{IsHeldTo, first_of_more, held_past, known_since}
use Rattle.period_keys.proofs.Leasts.{least_none, least_with_next}
use Rattle.period_keys.proofs.gaps.first_gap_of_some.Goals as goal

pub loop-child-init : goal.loop-child-init
loop-child-init c = record {
  least = least_none (λ (child : Period) day. IsGap (periods_of c.args.periods.now) child day);
  known = tt;
}

pub loop-child-preserved : goal.loop-child-preserved
loop-child-preserved c =
    let periods : List Period = periods_of c.args.periods.now in
    let child : Period = c.child-item.result in
    let from : ℤ = c.day_past-from.result in
    let day : ℤ = c.held_until-day.result in
    let inv = c.loop-child.invariant in
    let start_from : child.start ≤ℤ from = c.day_past-from.ensures.from in
    let from_day : from ≤ℤ day = c.held_until-day.ensures.from in
    let held : IsHeldTo periods child day = λ d low high. by_lt_z {P = IsHeld periods d} d from
    (λ less. held_past periods c.loop-child.held child.start from inv.known c.day_past-from.ensures.held d low less)
    (λ ge. c.held_until-day.ensures.held d ge high) in
    record {
      least = least_with_next (λ (child : Period) day. IsGap periods child day) c.args.children.now c.loop-child.child-index child c.found_at-found.result (omega arith) c.child-item.is
          (first_of_more (λ day. Any (λ child. IsGap periods child day) (take c.loop-child.child-index c.args.children.now)) periods child c.loop-child.found c.found_at-found.result day c.earlier_end-until.result
          inv.least held (omega (arith, ints)) c.held_until-day.ensures.gap c.earlier_end-until.ensures.upto c.earlier_end-until.ensures.found c.earlier_end-until.ensures.one
          c.found_at-found.ensures.day c.found_at-found.ensures.before);
      known = known_since periods c.new-held.result child.start day c.new-held.ensures.start c.new-held.ensures.end held;
    }

pub returns : goal.returns
returns c = let all : take c.loop-child.child-index c.args.children.now ≡ c.args.children.now = take_all _ _ (omega arith) in
    subst (λ (children : List Period). IsLeastOf (λ day. Any (λ child. IsGap (periods_of c.args.periods.now) child day) children) c.loop-child.found) all c.loop-child.invariant.least
