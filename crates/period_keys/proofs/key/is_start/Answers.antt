use Rattle.std.proofs.Common.{◌≡◌, ◌↔◌, ◌==◌, ◌∙◌, List, length, refl, rules, subst, sym, take, true}
use Rattle.std.specs.Ordering.{ordering_index}
use Rattle.std.specs.declared.cmp.Ordering.{Ordering}
use Rattle.std.specs.declared.cmp.Ordering.TheVariants.{Less, Equal, Greater}
use Rattle.std.proofs.lemmas.Bool.{false≢true}
use Rattle.period_core.specs.Order.{values_cmp}
use Rattle.period_core.specs.OrderLaws.{values_cmp-refl, values_cmp-same}
use Rattle.period_core.specs.declared.value.Value.{Value}
use Rattle.period_keys.proofs.key.is_start.Goals as goal

is_tie : (r : Ordering) → ((ordering_index r == 1) ≡ true ↔ r ≡ Equal)
is_tie Less = (λ e. absurd (false≢true e), λ e. absurd cc)
is_tie Equal = (λ e. refl, λ e. refl)
is_tie Greater = (λ e. absurd (false≢true e), λ e. absurd cc)

pub returns-then-leading-values : goal.returns-then-leading-values
returns-then-leading-values c =
    let leading : List Value = c.args.leading.now in
    let first : List Value = take (length leading) c.args.values.now in
    let compared : c.cmp.result ≡ values_cmp leading first = search rules in (
      λ yes. values_cmp-same leading first (sym compared ∙ (is_tie c.cmp.result).0 (sym c.eq.ensures ∙ yes)),
      λ same. c.eq.ensures ∙ (is_tie c.cmp.result).1 (compared ∙ subst (λ (vs : List Value). values_cmp leading vs ≡ Equal) same (values_cmp-refl leading)),
    )
