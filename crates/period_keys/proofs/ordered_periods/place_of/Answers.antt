use Rattle.std.proofs.Common.{◌≡◌, ◌+◌, ◌-◌, ◌≤◌, ◌<◌, ◌<ℤ◌, ◌≤ℤ◌, ◌∙◌, ℕ, List, length, get_or, ap, arith, inl, inr, subst, sym}
use Rattle.std.specs.List.{Contains}
use Rattle.std.proofs.lemmas.Int.{ints}
use Rattle.std.proofs.lemmas.Bool.{cases_lt}
use Rattle.std.proofs.lemmas.List.{get_or_default}
use Rattle.period_core.specs.declared.period.Period.{Period}
use Rattle.period_keys.specs.Ordered.{AreInOrder}
use Rattle.period_keys.proofs.Edited.{earlier_day}
use Rattle.period_keys.proofs.ordered_periods.place_of.Goals as goal

abbrev IsPassed : List Period → Period → ℕ → Type 0
IsPassed periods period place = (k : ℕ) (d : Period) → place ≤ k → k < length periods → get_or periods k d ≡ period → ⊥

later : (periods : List Period) (period : Period) (place : ℕ) → ((k : ℕ) (d : Period) → place ≤ k → k < length periods → period.start <ℤ (get_or periods k d).start) → IsPassed periods period place
later periods period place after k d from inside same =
    let start : (get_or periods k d).start ≡ period.start = ap (λ (p : Period). p.start) same in
    let less : period.start <ℤ (get_or periods k d).start = after k d from inside in
    omega (arith, ints)

-- a period that would start later than each before this place, and is none from there on, is absent
absent : (periods : List Period) (period : Period) (place : ℕ) (here : Period) → AreInOrder periods → place < length periods → here ≡ get_or periods place here → here.start <ℤ period.start
    → IsPassed periods period (place + 1) → Contains periods period → ⊥
absent periods period place here order below is early passed (k, inside, same) =
    elim (cases_lt place k) [
      | inl more ↦ passed k period (omega arith) inside same
      | inr le ↦
          let there : get_or periods k here ≡ period = get_or_default periods k here period inside ∙ same in
          let start : (get_or periods k here).start ≡ period.start = ap (λ (p : Period). p.start) there in
          let mine : (get_or periods place here).start ≡ here.start = ap (λ (p : Period). p.start) (sym is) in
          elim (cases_lt k place) [
            | inl less ↦ let upto : (get_or periods k here).start ≤ℤ (get_or periods place here).start = order k place here less below in omega (arith, ints)
            | inr ge ↦ let both : k ≡ place = omega arith in let also : (get_or periods k here).start ≡ (get_or periods place here).start = ap (λ n. (get_or periods n here).start) both in omega (arith, ints)
          ]
    ]

pub loop-place-init : goal.loop-place-init
loop-place-init c = record {
  inside = c.place_after-place.ensures.bound;
  passed = later c.args.periods.now c.args.period.now c.place_after-place.result c.place_after-place.ensures.after;
}

pub returns-then-lt : goal.returns-then-lt
returns-then-lt c =
    let periods : List Period = c.args.periods.now in
    let period : Period = c.args.period.now in
    let place : ℕ = c.loop-place.place - 1 in
    let more : place + 1 ≡ c.loop-place.place = omega arith in
    absent periods period place c.index-periods-place.result c.requires (omega (arith, c.loop-place.invariant.inside)) c.index-periods-place.is
    (subst (λ (p : Period). p.start <ℤ period.start) (sym c.index-periods-place.is) (earlier_day (get_or periods place c.index-periods-place.result).start period.start c.if-lt.ensures))
    (subst (IsPassed periods period) (sym more) c.loop-place.invariant.passed)
