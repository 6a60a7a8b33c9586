use Rattle.std.proofs.Common.{◌≡◌, ◌+◌, ◌++◌, ◌∷◌, [], List, take, refl, sym, ◌∙◌, ap, subst, inl, inr, arith}
use Rattle.std.specs.List.{Any, Contains}
use Rattle.std.proofs.lemmas.List.{take_more, take_all}
use Rattle.std.proofs.lemmas.List.Elements.{Contains-get_or}
use Rattle.period_core.specs.declared.period.Period.{Period}
use Rattle.period_keys.specs.Keys.{IsWithin}
use Rattle.period_keys.specs.Gaps.{IsHeld}
use Rattle.period_keys.proofs.Members.{some_member, Any-append, Any-one}
use Rattle.period_keys.proofs.gaps.end_of_any.Goals as goal

pub returns-then-contains_day : goal.returns-then-contains_day
returns-then-contains_day c =
    let periods : List Period = c.args.periods.now in
    let other : Period = c.other-item.result in
    let there : Contains periods other = subst (Contains periods) (sym c.other-item.is) (Contains-get_or periods c.loop-other.other-index other (omega arith)) in
    some_member (λ (period : Period). IsWithin period c.args.day × (period.end ≡ other.end)) periods other there (c.if-contains_day.ensures.days.0 refl, refl)

pub loop-other-preserved : goal.loop-other-preserved
loop-other-preserved c = λ held.
    let periods : List Period = c.args.periods.now in
    let i = c.loop-other.other-index in
    let other : Period = c.other-item.result in
    let more : take (i + 1) periods ≡ take i periods ++ other ∷ [] = take_more periods i other (omega arith) ∙ ap (λ x. take i periods ++ x ∷ []) (sym c.other-item.is) in
    let P : Period → Type 0 = λ period. IsWithin period c.args.day in
    elim ((Any-append P (take i periods) (other ∷ [])).0 (subst (λ (list : List Period). Any P list) more held)) [
      | inl old ↦ c.loop-other.invariant old
      | inr one ↦ (let within : IsWithin other c.args.day = (Any-one P other).0 one in
          let wrong = c.if-contains_day.ensures.days.1 within in cc)
    ]

pub returns : goal.returns
returns c = λ held.
    let all : take c.loop-other.other-index c.args.periods.now ≡ c.args.periods.now = take_all _ _ (omega arith) in
    c.loop-other.invariant (subst (λ (list : List Period). IsHeld list c.args.day) (sym all) held)
