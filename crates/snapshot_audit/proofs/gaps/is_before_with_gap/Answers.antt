use Rattle.std.proofs.Common.{◌≡◌, ◌<ℤ◌, refl, sym, ◌∙◌, ap, subst, arith}
use Rattle.std.specs.Ordering.{int_cmp, ordering_then}
use Rattle.std.specs.declared.cmp.Ordering.TheVariants.{Less, Equal}
use Rattle.std.proofs.lemmas.Int.{ints}
use Rattle.period_core.specs.Order.{values_cmp}
use Rattle.period_core.specs.OrderLaws.{values_cmp-refl, values_cmp-same}
use Rattle.period_core.specs.declared.row.PeriodRow.{PeriodRow}
use Rattle.temporal_model.proofs.AnswerOrder.{answer_cmp-same, int_cmp-Less}
use Rattle.snapshot_audit.proofs.gaps.is_before_with_gap.Goals as goal

pub returns-in-Less : goal.returns-in-Less
returns-in-Less c =
    let a : PeriodRow = c.args.first.now in
    let b : PeriodRow = c.args.second.now in
    let less : values_cmp a.values b.values ≡ Less = sym c.cmp.ensures ∙ c.in-Less.is in (
      λ _. (
        ap (λ o. ordering_then o (int_cmp a.period.start b.period.start)) less,
        λ v. absurd (let tie = subst (λ vs. values_cmp a.values vs ≡ Equal) v (values_cmp-refl a.values) in cc),
      ),
      λ _. refl,
    )

pub returns-in-Equal : goal.returns-in-Equal
returns-in-Equal c =
    let a : PeriodRow = c.args.first.now in
    let b : PeriodRow = c.args.second.now in
    let same : a.values ≡ b.values = values_cmp-same a.values b.values (sym c.cmp.ensures ∙ c.in-Equal.is) in
    let long : a.period.start <ℤ a.period.end = a.period.ordered in (
      λ yes.
          let gap : a.period.end <ℤ b.period.start = c.ends_before.ensures.0 yes in
          let less : a.period.start <ℤ b.period.start = omega (arith, ints) in
          (answer_cmp-same a b same ∙ int_cmp-Less a.period.start b.period.start less, λ _. gap),
      λ is. c.ends_before.ensures.1 (is.1 same),
    )
