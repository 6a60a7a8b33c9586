use Rattle.std.proofs.Common.{◌≡◌, ◌<◌, ◌++◌, ◌∷◌, [], ◌∙◌, ℕ, List, ap, arith, get_or, length, subst, sym}
use Rattle.period_keys.proofs.EqualPlaces.{Reached, few_places, reached_all, reached_more, reached_one}
use Rattle.period_keys.proofs.fixed_keys.equal_places.Goals as goal

pub loop-i-init : goal.loop-i-init
loop-i-init c =
    subst (Reached c.args.conditions.now c.args.place 0) (sym (c.in_ok-push.ensures.items ∙ ap (λ (l : List ℕ). l ++ c.args.place ∷ []) c.new-places.ensures.items))
    (reached_one c.args.conditions.now c.args.place)

pub loop-i-preserved : goal.loop-i-preserved
loop-i-preserved c =
    let conditions = c.args.conditions.now in
    let so_far : List ℕ = c.as_slice-so_far.result.now in
    let same : so_far ≡ c.loop-i.places.items = c.as_slice-so_far.ensures.value in
    let below : c.loop-i.i < length c.loop-i.places.items = subst (λ (l : List ℕ). c.loop-i.i < length l) same (omega arith) in
    reached_more conditions c.args.place c.loop-i.i (get_or so_far c.loop-i.i 0) c.loop-i.places.items c.push_equals.new.places.items c.loop-i.invariant below
    (ap (λ (l : List ℕ). get_or l c.loop-i.i 0) same) c.in_ok-push_equals.ensures.kept c.in_ok-push_equals.ensures.found c.in_ok-push_equals.ensures.only c.in_ok-push_equals.ensures.few

pub returns-then-i-so_far : goal.returns-then-i-so_far
returns-then-i-so_far c =
    let same = c.as_slice-so_far.ensures.value in
    reached_all c.args.conditions.now c.args.place c.loop-i.i c.loop-i.places.items c.loop-i.invariant (omega (arith, ap length same))

pub returns : goal.returns
returns c =
    reached_all c.args.conditions.now c.args.place c.loop-i.i c.loop-i.places.items c.loop-i.invariant
    (omega (arith, few_places c.args.conditions.now c.loop-i.places.items c.loop-i.invariant.few, c.loop-i-test.false))
