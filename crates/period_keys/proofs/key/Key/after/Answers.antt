use Rattle.std.proofs.Common.{◌≡◌, ◌-◌, ◌∷◌, ◌∙◌, ℕ, ℤ, zero, suc, List, Option, arith, ap, drop, refl, sym}
use Rattle.period_core.specs.declared.value.Value.{Value}
use Rattle.period_core.specs.declared.value.Value.TheVariants.{Int}
use Rattle.period_keys.specs.Leading.{values_after}
use Rattle.period_keys.proofs.PlanParts.{if_ok}
use Rattle.period_keys.proofs.key.Key.after.Goals as goal

drop_past : (count : ℕ) (v : Value) (rest : List Value) → (count ≡ 0 → ⊥) → drop (count - 1) rest ≡ drop count (v ∷ rest)
drop_past zero v rest some = absurd (some refl)
drop_past (suc n) v rest some = (let less : suc n - 1 ≡ n = omega arith in ap (λ (m : ℕ). drop m rest) less)

pub returns-in-Some-2 : goal.returns-in-Some-2
returns-in-Some-2 c =
    let rest : List Value = c.self.inside.rest in
    let first : Value = Int c.in-Some-2.field-0 in
    let whole : first ∷ rest ≡ c.args.self.now = ap (λ (o : Option ℤ). values_after o rest) (sym c.in-Some-2.is) ∙ c.self.view_is in
    if_ok c.key_from.result _ _
    (λ key is. is ∙ ap (drop (c.args.count - 1)) c.as_slice.ensures ∙ drop_past c.args.count first rest (λ none. omega (arith, c.if-count-eq0.false, none)) ∙ ap (drop c.args.count) whole)
    c.key_from.ensures
