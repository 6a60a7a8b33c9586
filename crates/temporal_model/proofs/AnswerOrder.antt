-- The order of answer rows is total, and strict if one precedes the other.
use Rattle.std.proofs.Common.{◌≡◌, ◌<ℤ◌, ℤ, sym, ◌∙◌, ap, subst}
use Rattle.std.specs.declared.cmp.Ordering.TheVariants.{Less, Equal, Greater}
use Rattle.std.specs.Cmp.{IsTotalOrder, int_cmp_is}
use Rattle.std.specs.Ordering.{int_cmp, ordering_then, ordering_reverse}
use Rattle.std.proofs.lemmas.Cmp.{then_total, on_total, int_cmp_total}
use Rattle.period_core.specs.Order.{values_cmp}
use Rattle.period_core.specs.OrderLaws.{values_cmp_total, values_cmp-refl}
use Rattle.period_core.specs.declared.row.PeriodRow.{PeriodRow}
use Rattle.temporal_model.specs.Answer.{answer_cmp}

-- the order of answer rows is total
pub answer_cmp_total : IsTotalOrder answer_cmp
answer_cmp_total = then_total (on_total (λ (r : PeriodRow). r.values) values_cmp_total) (on_total (λ (r : PeriodRow). r.period.start) int_cmp_total)

-- at the same values the order is the order of the first days
pub answer_cmp-same :
    (a b : PeriodRow) → a.values ≡ b.values → answer_cmp a b ≡ int_cmp a.period.start b.period.start
answer_cmp-same a b e =
    let tie : values_cmp a.values b.values ≡ Equal = subst (λ vs. values_cmp a.values vs ≡ Equal) e (values_cmp-refl a.values) in
    ap (λ o. ordering_then o (int_cmp a.period.start b.period.start)) tie

-- a lower number compares as less
pub int_cmp-Less : (x y : ℤ) → x <ℤ y → int_cmp x y ≡ Less
int_cmp-Less x y h = sym (int_cmp_is x y Less h)

pub strictly : (a b : PeriodRow) → answer_cmp a b ≡ Less → answer_cmp b a ≡ Less → ⊥
strictly a b p q = let back : answer_cmp b a ≡ Greater = answer_cmp_total.antisymm b a ∙ ap ordering_reverse p in cc
