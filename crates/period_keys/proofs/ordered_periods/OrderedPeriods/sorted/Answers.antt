use Rattle.std.proofs.Common.{List, length, subst, rules}
use Rattle.std.proofs.lemmas.Fn.{always_returns_same}
use Rattle.period_core.specs.declared.period.Period.{Period}
use Rattle.period_keys.proofs.Runs.{AreRuns, all_settled, periods_in_order}
use Rattle.period_keys.proofs.ordered_periods.OrderedPeriods.sorted.Goals as goal

pub invariant_of-result : goal.invariant_of-result
invariant_of-result c =
    let items : List Period = c.sort_by_key.new.self.items in
    let runs : AreRuns (length items) items =
    all_settled items (periods_in_order items (c.in_ok-sort_by_key.ensures.sorted (λ (p : Period). p.start) (always_returns_same _ _ _ (λ a r f' k. search rules)))) in
    let all : AreRuns c.len-settled.result items = subst (λ n. AreRuns n items) (search rules) runs in
    record { within = all.within; ordered = all.ordered; late = all.late }
