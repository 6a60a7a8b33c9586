use Rattle.std.proofs.Common.{◌≡◌, ◌≤ℤ◌, ◌<ℤ◌, List, sym, subst, arith}
use Rattle.std.proofs.lemmas.Int.{ints, by_lt_z}
use Rattle.period_core.specs.declared.period.Period.{Period}
use Rattle.period_keys.specs.Keys.{IsWithin}
use Rattle.period_keys.specs.Gaps.{IsHeld}
use Rattle.period_keys.specs.LookUps.{periods_of}
use Rattle.period_keys.proofs.Members.{some_member, member_of}
use Rattle.period_keys.proofs.gaps.held_until.Goals as goal

pub loop-end-preserved : goal.loop-end-preserved
loop-end-preserved c =
    let inv = c.loop-end.invariant in
    let periods : List Period = periods_of c.args.periods.now in
    let (holder, there, (within, end_is)) = member_of (λ (period : Period). IsWithin period c.loop-end.day × (period.end ≡ c.in-Some.later)) periods c.in-Some.ensures in
    let reaches : c.loop-end.day <ℤ c.in-Some.later = subst (λ e. c.loop-end.day <ℤ e) end_is within.1 in
    let from : c.args.start ≤ℤ c.loop-end.day = inv.from in
    record {
      from = omega (arith, ints);
      held = λ day start before. by_lt_z {P = IsHeld periods day} day c.loop-end.day (λ less. inv.held day start less)
          (λ ge. let first : holder.start ≤ℤ c.loop-end.day = within.0 in
          some_member (λ (period : Period). IsWithin period day) periods holder there (omega (arith, ints), subst (λ e. day <ℤ e) (sym end_is) before));
    }
