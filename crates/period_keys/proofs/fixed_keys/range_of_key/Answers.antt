use Rattle.std.proofs.Common.{◌≡◌, ◌∙◌, Some, None, ℕ, ap, arith, length, refl, sym, subst, take, true}
use Rattle.std.specs.Prelude.{MatchOption, Option, slice_get}
use Rattle.std.specs.Global.{Vec}
use Rattle.std.proofs.lemmas.Option.{slice_get_past, slice_get_read}
use Rattle.sql_statements.specs.Plain.{plain_condition}
use Rattle.sql_statements.specs.declared.statement.Comparison.{Comparison}
use Rattle.sql_statements.specs.declared.statement.Comparison.TheVariants.{Equal, Less, LessOrEqual, Greater, GreaterOrEqual}
use Rattle.catalog_core.specs.Conditions.{compared}
use Rattle.period_core.specs.declared.value.Value.{Value}
use Rattle.period_keys.specs.declared.key_range.KeyRange.{KeyRange}
use Rattle.period_keys.specs.declared.key_range.Limit.TheVariants.{Unbounded}
use Rattle.period_keys.specs.FixedKeys.{HasValue, HoldsOfFirst, States}
use Rattle.period_keys.specs.Keys.{values_at}
use Rattle.period_keys.specs.Ranges.{IsLimitOf}
use Rattle.period_keys.proofs.Fixed.{states_holds}
use Rattle.period_keys.proofs.Limits.{above_limited, below_limited, if_limited, said_limited}
use Rattle.period_keys.proofs.RangeKeys.{in_range, led_in_range}
use Rattle.period_keys.proofs.fixed_keys.range_of_key.Goals as goal

pub returns-in_default-clause-within : goal.returns-in_default-clause-within
returns-in_default-clause-within g c row met =
    let positions = c.args.positions.now in
    let values = g.T.ColumnTest.values row in
    led_in_range c.led_by.result positions values
    (subst (λ (l : Vec Value). values_at (take (length l.items) positions) values ≡ l.items) (sym c.led_by.ensures.leading) (c.in_ok-leading.ensures.fixed row met))
    c.led_by.ensures.lower c.led_by.ensures.upper

pub returns-in_default-clause-said : goal.returns-in_default-clause-said
returns-in_default-clause-said g c =
    let positions = c.args.positions.now in
    let Says : Comparison → ℕ → Value → Type 0 = λ comparison. States (g.T.ColumnTest.Says comparison) (plain_condition c.args.condition.now) in
    let range : KeyRange = c.led_by.result in
    let count : length range.leading.items ≡ c.len.result = ap (λ (l : Vec Value). length l.items) c.led_by.ensures.leading ∙ (let ok = c.in_ok-leading.leading.ok.0 in omega (arith, c.len.ensures)) in
    let none : slice_get positions (length range.leading.items) ≡ None = slice_get_past positions (length range.leading.items) (omega (arith, count, c.in_default.ensures.lookup.3)) in
    record {
      leading = subst (λ (l : Vec Value). HoldsOfFirst (HasValue (Says Equal)) positions (length l.items)) (sym c.led_by.ensures.leading) c.in_ok-leading.ensures.found;
      lower = subst (λ (o : Option ℕ). MatchOption o (range.lower ≡ Unbounded) (λ next. IsLimitOf (Says GreaterOrEqual next) (Says Greater next) range.lower)) (sym none) c.led_by.ensures.lower;
      upper = subst (λ (o : Option ℕ). MatchOption o (range.upper ≡ Unbounded) (λ next. IsLimitOf (Says LessOrEqual next) (Says Less next) range.upper)) (sym none) c.led_by.ensures.upper;
    }

pub returns-clause-within : goal.returns-clause-within
returns-clause-within g c row met =
    let positions = c.args.positions.now in
    let values = g.T.ColumnTest.values row in
    let condition = plain_condition c.args.condition.now in
    let next : ℕ = c.in-Some.next.now in
    let Says : Comparison → Value → Type 0 = λ comparison. States (g.T.ColumnTest.Says comparison) condition next in
    let holds : (comparison : Comparison) (v : Value) → Says comparison v → compared comparison (slice_get values next) (Some v) ≡ true = λ comparison v says.
    states_holds (g.T.ColumnTest.Says comparison) (g.T.ColumnTest.passes row) comparison values (λ leaf p v its held. g.met.T.ColumnTest.compares comparison leaf row p v its held) condition next v says met in
    let at : slice_get positions (length c.in_ok-leading.leading.items) ≡ Some next =
    subst (λ (n : ℕ). slice_get positions n ≡ Some next) (let ok = c.in_ok-leading.leading.ok.0 in omega (arith, c.len.ensures)) (slice_get_read positions (length positions) c.len.result next refl c.in-Some.ensures.lookup.3.0 c.in-Some.ensures.lookup.1) in
    in_range (record { leading = c.in_ok-leading.leading; lower = c.in_ok-lower.lower; upper = c.in_ok-upper.upper }) positions values next (c.in_ok-leading.ensures.fixed row met) at
    (above_limited c.in_ok-lower.lower (slice_get values next)
    (if_limited (Says GreaterOrEqual) (Says Greater) (λ v. compared GreaterOrEqual (slice_get values next) (Some v) ≡ true) (λ v. compared Greater (slice_get values next) (Some v) ≡ true) c.in_ok-lower.lower (holds GreaterOrEqual) (holds Greater) (said_limited (Says GreaterOrEqual) (Says Greater) c.in_ok-lower.lower c.in_ok-lower.ensures)))
    (below_limited c.in_ok-upper.upper (slice_get values next)
    (if_limited (Says LessOrEqual) (Says Less) (λ v. compared LessOrEqual (slice_get values next) (Some v) ≡ true) (λ v. compared Less (slice_get values next) (Some v) ≡ true) c.in_ok-upper.upper (holds LessOrEqual) (holds Less) (said_limited (Says LessOrEqual) (Says Less) c.in_ok-upper.upper c.in_ok-upper.ensures)))

pub returns-clause-said : goal.returns-clause-said
returns-clause-said g c =
    let positions = c.args.positions.now in
    let next : ℕ = c.in-Some.next.now in
    let Says : Comparison → ℕ → Value → Type 0 = λ comparison. States (g.T.ColumnTest.Says comparison) (plain_condition c.args.condition.now) in
    let at : slice_get positions (length c.in_ok-leading.leading.items) ≡ Some next =
    subst (λ (n : ℕ). slice_get positions n ≡ Some next) (let ok = c.in_ok-leading.leading.ok.0 in omega (arith, c.len.ensures)) (slice_get_read positions (length positions) c.len.result next refl c.in-Some.ensures.lookup.3.0 c.in-Some.ensures.lookup.1) in
    record {
      leading = c.in_ok-leading.ensures.found;
      lower = subst (λ (o : Option ℕ). MatchOption o (c.in_ok-lower.lower ≡ Unbounded) (λ p. IsLimitOf (Says GreaterOrEqual p) (Says Greater p) c.in_ok-lower.lower)) (sym at) c.in_ok-lower.ensures;
      upper = subst (λ (o : Option ℕ). MatchOption o (c.in_ok-upper.upper ≡ Unbounded) (λ p. IsLimitOf (Says LessOrEqual p) (Says Less p) c.in_ok-upper.upper)) (sym at) c.in_ok-upper.ensures;
    }
