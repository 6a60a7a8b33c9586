-- Limits that conditions say of a value.
use Rattle.std.proofs.Common.{◌≡◌, true, None, Option, Some, refl}
use Rattle.std.specs.Prelude.{IfSome, MatchOption}
use Rattle.std.specs.Borrow.{Bor}
use Rattle.std.specs.Option.{option_copied}
use Rattle.sql_statements.specs.declared.statement.Comparison.TheVariants as comparison
use Rattle.sql_statements.specs.declared.statement.Comparison.TheVariants.{LessOrEqual, GreaterOrEqual}
use Rattle.catalog_core.specs.Conditions.{compared}
use Rattle.period_core.specs.declared.value.Value.{Value}
use Rattle.period_keys.specs.declared.key_range.Limit.{Limit}
use Rattle.period_keys.specs.declared.key_range.Limit.TheVariants.{Included, Excluded, Unbounded}
use Rattle.period_keys.specs.Ranges.{IfLimited, IsLimitOf, is_above, is_below, limit_of}

pub if_limited : (With Without With_too Without_too : Value → Type 0) (limit : Limit) → ((v : Value) → With v → With_too v) → ((v : Value) → Without v → Without_too v) → IfLimited With Without limit → IfLimited With_too Without_too limit
if_limited With Without With_too Without_too (Included l) with without h = with l h
if_limited With Without With_too Without_too (Excluded l) with without h = without l h
if_limited With Without With_too Without_too Unbounded with without h = tt

pub said_limited : (With Without : Value → Type 0) (limit : Limit) → IsLimitOf With Without limit → IfLimited With Without limit
said_limited With Without (Included l) h = h
said_limited With Without (Excluded l) h = h
said_limited With Without Unbounded h = tt

pub above_limited : (lower : Limit) (o : Option Value) → IfLimited (λ v. compared GreaterOrEqual o (Some v) ≡ true) (λ v. compared comparison.Greater o (Some v) ≡ true) lower → is_above lower o ≡ true
above_limited (Included l) o h = h
above_limited (Excluded l) o h = h
above_limited Unbounded o h = refl

pub below_limited : (upper : Limit) (o : Option Value) → IfLimited (λ v. compared LessOrEqual o (Some v) ≡ true) (λ v. compared comparison.Less o (Some v) ≡ true) upper → is_below upper o ≡ true
below_limited (Included l) o h = h
below_limited (Excluded l) o h = h
below_limited Unbounded o h = refl

-- a limit of what is found
pub limit_said : (With Without : Value → Type 0) (included excluded : Option (Bor Value)) → MatchOption included ((v : Value) → With v → ⊥) (λ v. With v.now) → MatchOption excluded ((v : Value) → Without v → ⊥) (λ v. Without v.now)
    → IsLimitOf With Without (limit_of (option_copied included) (option_copied excluded))
limit_said With Without (Some v) excluded with without = with
limit_said With Without None (Some v) with without = without
limit_said With Without None None with without = λ v. (with v, without v)

pub limit_held : (With Without : Value → Type 0) (included excluded : Option (Bor Value)) → IfSome included (λ v. With v.now) → IfSome excluded (λ v. Without v.now)
    → IfLimited With Without (limit_of (option_copied included) (option_copied excluded))
limit_held With Without (Some v) excluded with without = with
limit_held With Without None (Some v) with without = without
limit_held With Without None None with without = tt
