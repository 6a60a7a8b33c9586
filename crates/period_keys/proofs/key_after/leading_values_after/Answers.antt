use Rattle.std.proofs.Common.{◌++◌, ◌∷◌, [], ◌∙◌, ℕ, List, length, length-append, take, get_or, sym, ap, arith, subst}
use Rattle.std.proofs.lemmas.List.Elements.{All-more}
use Rattle.period_core.specs.declared.value.Value.{Value}
use Rattle.period_keys.specs.FixedKeys.{FixesKeyAfter, HasValue, HoldsOfFirst, IsValueAfter, SaysAfter}
use Rattle.period_keys.proofs.FirstHeld.{all_hold, stopped}
use Rattle.period_keys.proofs.RangeKeys.{key_more}
use Rattle.period_keys.proofs.key_after.leading_values_after.Goals as goal

pub loop-position-preserved : goal.loop-position-preserved
loop-position-preserved c =
    let conditions = c.args.conditions.now in
    let positions : List ℕ = c.args.positions.now in
    let i : ℕ = c.loop-position.position-index in
    let x : ℕ = get_or positions i 0 in
    let key : List Value = c.loop-position.leading.items in
    let value : Value = c.in-Some.value.now in
    let (fixes, say, as_many) = c.loop-position.invariant in
    let its : IsValueAfter conditions c.args.known.now c.args.at c.args.start c.args.width x value = rw c.in-Some.is at c.in_ok-found.ensures.held in
    let added = c.in_ok-push.ensures.items ∙ ap (λ (v : Value). key ++ v ∷ []) c.in_ok-copy.ensures in (
      λ first values rest long wide has met. key_more positions i values key _ value (omega arith) (fixes first values rest long wide has met) (its first values rest long wide has met) added,
      λ fits.
          let says : HasValue (SaysAfter conditions c.args.known.now c.args.at c.args.start c.args.width) x = (value, rw c.in-Some.is at (c.in_ok-found.ensures.said fits)) in
          All-more (HasValue (SaysAfter conditions c.args.known.now c.args.at c.args.start c.args.width)) positions i 0 (omega arith) (say fits) says,
      (let more = length-append key (c.in_ok-copy.field-0 ∷ []) in ap length c.in_ok-push.ensures.items ∙ more ∙ omega (arith, as_many)),
    )

pub returns-in_default-clause-fixed : goal.returns-in_default-clause-fixed
returns-in_default-clause-fixed c =
    let (fixes, say, long) = c.loop-position.invariant in
    subst (λ (n : ℕ). FixesKeyAfter c.args.conditions.now c.args.known.now c.args.at c.args.start c.args.width (take n c.args.positions.now) c.loop-position.leading.items) (sym long) fixes

pub returns-in_default-clause-found : goal.returns-in_default-clause-found
returns-in_default-clause-found c fits =
    let (fixes, say, long) = c.loop-position.invariant in
    let none = rw c.in_default.is at (c.in_ok-found.ensures.said fits) in
    let Has = HasValue (SaysAfter c.args.conditions.now c.args.known.now c.args.at c.args.start c.args.width) in
    subst (HoldsOfFirst Has c.args.positions.now) (sym long)
    (stopped Has c.args.positions.now c.loop-position.position-index 0 (omega arith) (say fits) (λ has. none has.0 has.1))

pub returns-clause-fixed : goal.returns-clause-fixed
returns-clause-fixed c =
    let (fixes, say, long) = c.loop-position.invariant in
    subst (λ (n : ℕ). FixesKeyAfter c.args.conditions.now c.args.known.now c.args.at c.args.start c.args.width (take n c.args.positions.now) c.loop-position.leading.items) (sym long) fixes

pub returns-clause-found : goal.returns-clause-found
returns-clause-found c fits =
    let (fixes, say, long) = c.loop-position.invariant in
    let Has = HasValue (SaysAfter c.args.conditions.now c.args.known.now c.args.at c.args.start c.args.width) in
    subst (HoldsOfFirst Has c.args.positions.now) (sym long)
    (all_hold Has c.args.positions.now c.loop-position.position-index (omega arith) (omega arith) (say fits))
