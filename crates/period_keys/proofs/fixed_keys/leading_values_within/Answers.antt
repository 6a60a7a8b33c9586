use Rattle.std.proofs.Common.{Some, ◌++◌, ◌∷◌, [], ◌∙◌, ℕ, List, length, length-append, take, get_or, sym, ap, arith, subst}
use Rattle.std.specs.List.{slice_get}
use Rattle.std.proofs.lemmas.List.Elements.{All-more}
use Rattle.period_core.specs.declared.value.Value.{Value}
use Rattle.sql_statements.specs.declared.statement.Comparison.TheVariants.{Equal}
use Rattle.period_keys.specs.Equations.{both_equal}
use Rattle.period_keys.specs.FixedKeys.{ComparesWithin, FixesKeyWithin, HasValue, HoldsOfFirst, SaysWithin}
use Rattle.period_keys.proofs.FirstHeld.{all_hold, stopped}
use Rattle.period_keys.proofs.RangeKeys.{key_more}
use Rattle.period_keys.proofs.fixed_keys.leading_values_within.Goals as goal

pub loop-position-preserved : goal.loop-position-preserved
loop-position-preserved c =
    let conditions = c.args.conditions.now in
    let positions : List ℕ = c.args.positions.now in
    let i : ℕ = c.loop-position.position-index in
    let x : ℕ = get_or positions i 0 in
    let key : List Value = c.loop-position.leading.items in
    let value : Value = c.in-Some.value.now in
    let (fixes, say, long) = c.loop-position.invariant in
    let its : ComparesWithin conditions c.args.start c.args.width Equal x value = rw c.in-Some.is at c.in_ok-found.ensures.held in
    let added = c.in_ok-push.ensures.items ∙ ap (λ (v : Value). key ++ v ∷ []) c.in_ok-copy.ensures in (
      λ first values rest before wide met.
          key_more positions i values key _ value (omega arith) (fixes first values rest before wide met) (both_equal (slice_get values x) (Some value) (its first values rest before wide met)) added,
      λ fits.
          let says : HasValue (SaysWithin conditions c.args.start c.args.width Equal) x = (value, rw c.in-Some.is at (c.in_ok-found.ensures.said fits)) in
          All-more (HasValue (SaysWithin conditions c.args.start c.args.width Equal)) positions i 0 (omega arith) (say fits) says,
      (let more = length-append key (c.in_ok-copy.field-0 ∷ []) in ap length c.in_ok-push.ensures.items ∙ more ∙ omega (arith, long)),
    )

pub returns-in_default-clause-fixed : goal.returns-in_default-clause-fixed
returns-in_default-clause-fixed c =
    let (fixes, say, long) = c.loop-position.invariant in
    subst (λ (n : ℕ). FixesKeyWithin c.args.conditions.now c.args.start c.args.width (take n c.args.positions.now) c.loop-position.leading.items) (sym long) fixes

pub returns-in_default-clause-found : goal.returns-in_default-clause-found
returns-in_default-clause-found c fits =
    let (fixes, say, long) = c.loop-position.invariant in
    let none = rw c.in_default.is at (c.in_ok-found.ensures.said fits) in
    let Has = HasValue (SaysWithin c.args.conditions.now c.args.start c.args.width Equal) in
    subst (HoldsOfFirst Has c.args.positions.now) (sym long)
    (stopped Has c.args.positions.now c.loop-position.position-index 0 (omega arith) (say fits) (λ has. none has.0 has.1))

pub returns-clause-fixed : goal.returns-clause-fixed
returns-clause-fixed c =
    let (fixes, say, long) = c.loop-position.invariant in
    subst (λ (n : ℕ). FixesKeyWithin c.args.conditions.now c.args.start c.args.width (take n c.args.positions.now) c.loop-position.leading.items) (sym long) fixes

pub returns-clause-found : goal.returns-clause-found
returns-clause-found c fits =
    let (fixes, say, long) = c.loop-position.invariant in
    let Has = HasValue (SaysWithin c.args.conditions.now c.args.start c.args.width Equal) in
    subst (HoldsOfFirst Has c.args.positions.now) (sym long)
    (all_hold Has c.args.positions.now c.loop-position.position-index (omega arith) (omega arith) (say fits))
