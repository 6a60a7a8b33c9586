use Rattle.std.proofs.Common.{◌≡◌, ◌∷◌, ◌∙◌, List, ap, ap₂, rules, sym}
use Rattle.std.specs.Ordering.{ordering_reverse}
use Rattle.period_core.specs.Order.{values_cmp}
use Rattle.period_core.specs.OrderLaws.{values_cmp_total}
use Rattle.period_core.specs.declared.value.Value.{Value}
use Rattle.period_core.specs.declared.value.Value.TheVariants.{Int}
use Rattle.period_keys.specs.Leading.{values_after}
use Rattle.period_keys.proofs.key.Key.cmp_whole.Goals as goal

pub returns-in-None-Some : goal.returns-in-None-Some
returns-in-None-Some c =
    let one = c.in-None-Some.one in
    let other : Int one ∷ c.as_slice-in-None-Some.result.now ≡ c.args.other.now =
    ap (λ (rest : List Value). Int one ∷ rest) c.as_slice-in-None-Some.ensures ∙ ap (λ leading. values_after leading c.other.inside.rest) (sym c.in-None-Some.is-1) ∙ c.other.view_is in
    let own : c.as_slice-in-None-Some-2.result.now ≡ c.args.self.now =
    c.as_slice-in-None-Some-2.ensures ∙ ap (λ leading. values_after leading c.self.inside.rest) (sym c.in-None-Some.is-0) ∙ c.self.view_is in
    let compared : c.cmp_with-in-None-Some.result ≡ values_cmp (Int one ∷ c.as_slice-in-None-Some.result.now) c.as_slice-in-None-Some-2.result.now = search rules in
    c.reverse.ensures ∙ ap ordering_reverse (compared ∙ ap₂ values_cmp other own) ∙ sym (values_cmp_total.antisymm c.args.self.now c.args.other.now)
