use Rattle.std.proofs.Common.{◌++◌, ℕ, List, subst}
use Rattle.period_core.specs.declared.row.PeriodRow.{PeriodRow}
use Rattle.period_keys.specs.Keys.{IsLeastOf, IsUncovered}
use Rattle.period_keys.specs.Lawful.{parent_positions}
use Rattle.period_keys.proofs.FaultFacts.{least_child_fault}
use Rattle.period_keys.proofs.faults.child_fault.Goals as goal

pub returns : goal.returns
returns c = λ catalog before change current child reference parent is planned refers.
    let own : List ℕ = c.args.own.now in
    let keys : List ℕ = parent_positions parent reference in
    least_child_fault catalog before change current c.args.plan.now child reference parent own refers.above c.in_ok-found.found is planned refers.refers refers.other refers.holds (λ rows ended stay each split.
    subst (λ (added : List PeriodRow). IsLeastOf (IsUncovered own (stay ++ added) keys refers.above) c.in_ok-found.found) c.as_slice.ensures
    (c.in_ok-found.ensures.of_whole keys refers.above rows ended stay refers.indexed each split))
