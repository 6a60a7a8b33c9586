use Rattle.std.proofs.Common.{Some, true, ◌≡◌, ◌+◌, ◌++◌, ◌∙◌, ℕ, List, ap, arith, get_or, inl, inr, subst, sym}
use Rattle.std.specs.List.{Contains}
use Rattle.std.specs.Prelude.{Option, slice_get}
use Rattle.catalog_core.specs.Conditions.{compared}
use Rattle.std.proofs.lemmas.Bool.{cases_lt}
use Rattle.std.proofs.lemmas.List.{get_or_default}
use Rattle.std.proofs.lemmas.List.Elements.{Contains-get_or}
use Rattle.period_core.specs.declared.value.Value.{Value}
use Rattle.period_keys.specs.FixedKeys.{AreSaidEqual, SomeStates}
use Rattle.period_keys.proofs.EqualPlaces.{said_same}
use Rattle.period_keys.proofs.Fixed.{at_place, one_holds}
use Rattle.period_keys.proofs.fixed_keys.value_within.Goals as goal

pub returns-then-position-width-clause-said : goal.returns-then-position-width-clause-said
returns-then-position-width-clause-said c fits value says = absurd (omega (arith, says.0, c.if-position-width.true))

pub returns-in_default-clause-said : goal.returns-in_default-clause-said
returns-in_default-clause-said c fits value says = absurd (omega (arith, says.0, fits, c.in_default.ensures))

pub loop-other-init : goal.loop-other-init
loop-other-init c = λ k d below value says. omega (arith, below)

pub loop-other-preserved : goal.loop-other-preserved
loop-other-preserved c = λ k d below value says.
    let places : List ℕ = c.deref-other-items.result.now in
    let i : ℕ = c.loop-other.other-index in
    elim (cases_lt k i) [
      | inl less ↦ c.loop-other.invariant k d less value says
      | inr more ↦
          let same : k ≡ i = omega (arith, below, more) in
          let at : get_or places k d ≡ get_or places i 0 = ap (λ (n : ℕ). get_or places n d) same ∙ get_or_default places i d 0 c.loop-other-test.true in
          c.in_default-value_by_one.ensures value (subst (λ (p : ℕ). SomeStates c.args.comparison c.args.conditions.now p value) at says)
    ]

pub returns-in-Some-value_by_one-clause-held : goal.returns-in-Some-value_by_one-clause-held
returns-in-Some-value_by_one-clause-held c first values rest long wide met =
    let conditions = c.args.conditions.now in
    let comparison = c.args.comparison in
    let whole : List Value = first ++ (values ++ rest) in
    let value : Value = c.in-Some-value_by_one.value.now in
    let i : ℕ = c.loop-other.other-index in
    let places : List ℕ = c.deref-other-items.result.now in
    let other : ℕ = get_or places i 0 in
    let there : Contains c.in_ok-places.places.items other = subst (λ (l : List ℕ). Contains l other) c.deref-other-items.ensures.value (Contains-get_or places i 0 c.loop-other-test.true) in
    let equal : slice_get whole other ≡ slice_get whole c.in-Some.place = said_same conditions c.in-Some.place other ((c.in_ok-places.ensures other).0 there) whole met in
    let its : slice_get whole c.in-Some.place ≡ slice_get values c.args.position = at_place first values rest c.args.start c.args.width c.args.position c.in-Some.place long wide c.if-position-width.false (omega (arith, c.in-Some.ensures)) in
    let says = c.in-Some-value_by_one.ensures in
    subst (λ (o : Option Value). compared comparison o (Some value) ≡ true) (equal ∙ its)
    (one_holds comparison conditions says.0 says.1 other value says.2 (sym says.3) says.4 whole met)

pub returns-in-Some-value_by_one-clause-said : goal.returns-in-Some-value_by_one-clause-said
returns-in-Some-value_by_one-clause-said c fits =
    let i : ℕ = c.loop-other.other-index in
    let places : List ℕ = c.deref-other-items.result.now in
    let other : ℕ = get_or places i 0 in
    let there : Contains c.in_ok-places.places.items other = subst (λ (l : List ℕ). Contains l other) c.deref-other-items.ensures.value (Contains-get_or places i 0 c.loop-other-test.true) in
    let said : AreSaidEqual c.args.conditions.now (c.args.start + c.args.position) other =
    subst (λ (p : ℕ). AreSaidEqual c.args.conditions.now p other) (omega (arith, c.in-Some.ensures)) ((c.in_ok-places.ensures other).0 there) in
    (omega (arith, c.if-position-width.false), (other, said, c.in-Some-value_by_one.ensures))

pub returns-clause-said : goal.returns-clause-said
returns-clause-said c fits value says =
    let places : List ℕ = c.deref-other-items.result.now in
    let other : ℕ = says.1.0 in
    let said : AreSaidEqual c.args.conditions.now c.in-Some.place other = subst (λ (p : ℕ). AreSaidEqual c.args.conditions.now p other) (omega (arith, c.in-Some.ensures)) says.1.1 in
    let there : Contains places other = subst (λ (l : List ℕ). Contains l other) (sym c.deref-other-items.ensures.value) ((c.in_ok-places.ensures other).1 said) in
    c.loop-other.invariant there.0 other (omega (arith, there.1, c.loop-other-test.false)) value (subst (λ (p : ℕ). SomeStates c.args.comparison c.args.conditions.now p value) (sym there.2) says.1.2)
