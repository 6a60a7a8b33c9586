use Rattle.std.proofs.Common.{◌≡◌, ◌++◌, ◌∙◌, ℕ, List, map, sym, subst}
use Rattle.std.specs.Prelude.{IsPermutation}
use Rattle.period_core.specs.declared.row.PeriodRow.{PeriodRow}
use Rattle.period_core.specs.declared.version.VersionRow.{VersionRow}
use Rattle.history_model.specs.Versions.{row_of}
use Rattle.period_keys.specs.Index.{AreAtKeys}
use Rattle.period_keys.specs.Keys.{IsLeastOf, IsUncovered}
use Rattle.period_keys.specs.Lawful.{own_positions}
use Rattle.period_keys.specs.LookUps.{periods_by}
use Rattle.period_keys.proofs.FaultFacts.{least_parent_fault}
use Rattle.period_keys.proofs.faults.parent_fault.Goals as goal

pub returns : goal.returns
returns c = λ catalog before change current number child reference parent is planned referred.
    let keys : List ℕ = c.args.keys.now in
    let own : List ℕ = own_positions child reference in
    let rows : List PeriodRow = map row_of current in
    let going : c.as_slice-2.result.now ≡ map row_of c.args.plan.now.ended =
    c.as_slice-2.ensures.value ∙ subst (λ (ended : List VersionRow). c.in_ok-ended.ended.items ≡ map row_of ended) c.as_slice.ensures c.in_ok-ended.ensures in
    least_parent_fault catalog before change current c.args.plan.now number child reference parent keys referred.below c.in_ok-found.found is planned referred.refers referred.changed referred.other referred.holds (λ stay each split.
    subst (λ (added : List PeriodRow). IsLeastOf (IsUncovered own referred.below keys (stay ++ added)) c.in_ok-found.found) c.as_slice-added.ensures
    (c.in_ok-found.ensures own referred.below rows stay referred.children_indexed
    (subst (λ (ps : List ℕ). AreAtKeys ps rows (periods_by c.args.parents.now)) (sym is) referred.parents_indexed)
    each
    (subst (λ (ended : List PeriodRow). IsPermutation rows (ended ++ stay)) (sym going) split)))
