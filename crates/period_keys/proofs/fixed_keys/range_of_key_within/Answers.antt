use Rattle.std.proofs.Common.{◌≡◌, ◌∙◌, Some, None, ℕ, ap, arith, length, refl, sym, subst, take, true}
use Rattle.std.specs.Prelude.{MatchOption, Option, slice_get}
use Rattle.std.specs.Global.{Vec}
use Rattle.std.proofs.lemmas.Option.{slice_get_past, slice_get_read}
use Rattle.sql_statements.specs.declared.statement.Comparison.{Comparison}
use Rattle.sql_statements.specs.declared.statement.Comparison.TheVariants.{Equal, Less, LessOrEqual, Greater, GreaterOrEqual}
use Rattle.catalog_core.specs.Conditions.{compared}
use Rattle.period_core.specs.declared.value.Value.{Value}
use Rattle.period_keys.specs.declared.key_range.KeyRange.{KeyRange}
use Rattle.period_keys.specs.declared.key_range.Limit.TheVariants.{Unbounded}
use Rattle.period_keys.specs.FixedKeys.{ComparesWithin, HasValue, HoldsOfFirst, SaysWithin}
use Rattle.period_keys.specs.Keys.{values_at}
use Rattle.period_keys.specs.Ranges.{IsLimitOf}
use Rattle.period_keys.proofs.Limits.{above_limited, below_limited, if_limited}
use Rattle.period_keys.proofs.RangeKeys.{in_range, led_in_range}
use Rattle.period_keys.proofs.fixed_keys.range_of_key_within.Goals as goal

pub returns-in_default-clause-within : goal.returns-in_default-clause-within
returns-in_default-clause-within c first values rest long wide met =
    let positions = c.args.positions.now in
    led_in_range c.led_by.result positions values
    (subst (λ (l : Vec Value). values_at (take (length l.items) positions) values ≡ l.items) (sym c.led_by.ensures.leading) (c.in_ok-leading.ensures.fixed first values rest long wide met))
    c.led_by.ensures.lower c.led_by.ensures.upper

pub returns-in_default-clause-said : goal.returns-in_default-clause-said
returns-in_default-clause-said c fits =
    let positions = c.args.positions.now in
    let Says : Comparison → ℕ → Value → Type 0 = SaysWithin c.args.conditions.now c.args.start c.args.width in
    let range : KeyRange = c.led_by.result in
    let count : length range.leading.items ≡ c.len.result = ap (λ (l : Vec Value). length l.items) c.led_by.ensures.leading ∙ (let ok = c.in_ok-leading.leading.ok.0 in omega (arith, c.len.ensures)) in
    let none : slice_get positions (length range.leading.items) ≡ None = slice_get_past positions (length range.leading.items) (omega (arith, count, c.in_default.ensures.lookup.3)) in
    record {
      leading = subst (λ (l : Vec Value). HoldsOfFirst (HasValue (Says Equal)) positions (length l.items)) (sym c.led_by.ensures.leading) (c.in_ok-leading.ensures.found fits);
      lower = subst (λ (o : Option ℕ). MatchOption o (range.lower ≡ Unbounded) (λ next. IsLimitOf (Says GreaterOrEqual next) (Says Greater next) range.lower)) (sym none) c.led_by.ensures.lower;
      upper = subst (λ (o : Option ℕ). MatchOption o (range.upper ≡ Unbounded) (λ next. IsLimitOf (Says LessOrEqual next) (Says Less next) range.upper)) (sym none) c.led_by.ensures.upper;
    }

pub returns-clause-within : goal.returns-clause-within
returns-clause-within c first values rest long wide met =
    let positions = c.args.positions.now in
    let next : ℕ = c.in-Some.next.now in
    let Compares : Comparison → Value → Type 0 = λ comparison. ComparesWithin c.args.conditions.now c.args.start c.args.width comparison next in
    let Holds : Comparison → Value → Type 0 = λ comparison v. compared comparison (slice_get values next) (Some v) ≡ true in
    let holds : (comparison : Comparison) (v : Value) → Compares comparison v → Holds comparison v = λ comparison v compares. compares first values rest long wide met in
    let at : slice_get positions (length c.in_ok-leading.leading.items) ≡ Some next =
    subst (λ (n : ℕ). slice_get positions n ≡ Some next) (let ok = c.in_ok-leading.leading.ok.0 in omega (arith, c.len.ensures)) (slice_get_read positions (length positions) c.len.result next refl c.in-Some.ensures.lookup.3.0 c.in-Some.ensures.lookup.1) in
    in_range (record { leading = c.in_ok-leading.leading; lower = c.in_ok-lower.lower; upper = c.in_ok-upper.upper }) positions values next (c.in_ok-leading.ensures.fixed first values rest long wide met) at
    (above_limited c.in_ok-lower.lower (slice_get values next)
    (if_limited (Compares GreaterOrEqual) (Compares Greater) (Holds GreaterOrEqual) (Holds Greater) c.in_ok-lower.lower (holds GreaterOrEqual) (holds Greater) c.in_ok-lower.ensures.held))
    (below_limited c.in_ok-upper.upper (slice_get values next)
    (if_limited (Compares LessOrEqual) (Compares Less) (Holds LessOrEqual) (Holds Less) c.in_ok-upper.upper (holds LessOrEqual) (holds Less) c.in_ok-upper.ensures.held))

pub returns-clause-said : goal.returns-clause-said
returns-clause-said c fits =
    let positions = c.args.positions.now in
    let next : ℕ = c.in-Some.next.now in
    let Says : Comparison → ℕ → Value → Type 0 = SaysWithin c.args.conditions.now c.args.start c.args.width in
    let at : slice_get positions (length c.in_ok-leading.leading.items) ≡ Some next =
    subst (λ (n : ℕ). slice_get positions n ≡ Some next) (let ok = c.in_ok-leading.leading.ok.0 in omega (arith, c.len.ensures)) (slice_get_read positions (length positions) c.len.result next refl c.in-Some.ensures.lookup.3.0 c.in-Some.ensures.lookup.1) in
    record {
      leading = c.in_ok-leading.ensures.found fits;
      lower = subst (λ (o : Option ℕ). MatchOption o (c.in_ok-lower.lower ≡ Unbounded) (λ p. IsLimitOf (Says GreaterOrEqual p) (Says Greater p) c.in_ok-lower.lower)) (sym at) (c.in_ok-lower.ensures.said fits);
      upper = subst (λ (o : Option ℕ). MatchOption o (c.in_ok-upper.upper ≡ Unbounded) (λ p. IsLimitOf (Says LessOrEqual p) (Says Less p) c.in_ok-upper.upper)) (sym at) (c.in_ok-upper.ensures.said fits);
    }
