use Rattle.std.proofs.Common.{Some, ◌++◌, ◌∷◌, [], ◌∙◌, ℕ, List, length, length-append, take, get_or, sym, ap, subst, arith}
use Rattle.std.specs.List.{slice_get}
use Rattle.std.proofs.lemmas.List.Elements.{All-more}
use Rattle.sql_statements.specs.Plain.{plain_condition}
use Rattle.sql_statements.specs.declared.statement.Comparison.TheVariants.{Equal}
use Rattle.period_keys.specs.Equations.{both_equal}
use Rattle.period_core.specs.declared.value.Value.{Value}
use Rattle.period_keys.specs.FixedKeys.{FixesKey, HasValue, HoldsOfFirst, States}
use Rattle.period_keys.proofs.Fixed.{states_holds}
use Rattle.period_keys.proofs.FirstHeld.{all_hold, stopped}
use Rattle.period_keys.proofs.RangeKeys.{key_more}
use Rattle.period_keys.proofs.fixed_keys.leading_values.Goals as goal

pub loop-position-preserved : goal.loop-position-preserved
loop-position-preserved g c =
    let positions : List ℕ = c.args.positions.now in
    let i : ℕ = c.loop-position.position-index in
    let x : ℕ = get_or positions i 0 in
    let key : List Value = c.loop-position.leading.items in
    let value : Value = c.in-Some.value.now in
    let (fixes, says, long) = c.loop-position.invariant in
    let added = c.in_ok-push.ensures.items ∙ ap (λ (v : Value). key ++ v ∷ []) c.in_ok-copy.ensures in (
      λ row met.
          let values : List Value = g.T.ColumnTest.values row in
          key_more positions i values key _ value (omega arith) (fixes row met)
          (both_equal (slice_get values x) (Some value) (states_holds (g.T.ColumnTest.Says Equal) (g.T.ColumnTest.passes row) Equal values (λ leaf position value says holds. g.met.T.ColumnTest.compares Equal leaf row position value says holds) (plain_condition c.args.condition.now) x value c.in-Some.ensures met))
          added,
      All-more (HasValue (States (g.T.ColumnTest.Says Equal) (plain_condition c.args.condition.now))) positions i 0 (omega arith) says (value, c.in-Some.ensures),
      (let more = length-append key (c.in_ok-copy.field-0 ∷ []) in ap length c.in_ok-push.ensures.items ∙ more ∙ omega (arith, long)),
    )

pub returns-in_default-clause-fixed : goal.returns-in_default-clause-fixed
returns-in_default-clause-fixed g c =
    let (fixes, says, long) = c.loop-position.invariant in
    subst (λ (n : ℕ). FixesKey g.T.ColumnTest.values g.T.ColumnTest.passes c.args.condition.now (take n c.args.positions.now) c.loop-position.leading.items) (sym long) fixes

pub returns-in_default-clause-found : goal.returns-in_default-clause-found
returns-in_default-clause-found g c =
    let (fixes, says, long) = c.loop-position.invariant in
    let Has = HasValue (States (g.T.ColumnTest.Says Equal) (plain_condition c.args.condition.now)) in
    subst (HoldsOfFirst Has c.args.positions.now) (sym long)
    (stopped Has c.args.positions.now c.loop-position.position-index 0 (omega arith) says (λ has. c.in_default.ensures has.0 has.1))

pub returns-clause-fixed : goal.returns-clause-fixed
returns-clause-fixed g c =
    let (fixes, says, long) = c.loop-position.invariant in
    subst (λ (n : ℕ). FixesKey g.T.ColumnTest.values g.T.ColumnTest.passes c.args.condition.now (take n c.args.positions.now) c.loop-position.leading.items) (sym long) fixes

pub returns-clause-found : goal.returns-clause-found
returns-clause-found g c =
    let (fixes, says, long) = c.loop-position.invariant in
    let Has = HasValue (States (g.T.ColumnTest.Says Equal) (plain_condition c.args.condition.now)) in
    subst (HoldsOfFirst Has c.args.positions.now) (sym long)
    (all_hold Has c.args.positions.now c.loop-position.position-index (omega arith) (omega arith) says)
