use Rattle.std.proofs.Common.{◌≡◌, List, take, ◌∙◌, ap, subst, arith}
use Rattle.std.proofs.lemmas.List.{take_all}
use Rattle.period_core.specs.declared.period.Period.{Period}
use Rattle.period_core.specs.declared.row.PeriodRow.{PeriodRow}
use Rattle.period_core.specs.declared.value.Value.{Value}
use Rattle.period_keys.specs.Keys.{IsLeastOf, key_values}
use Rattle.period_keys.specs.Gaps.{IsGap, LacksKeyOf}
use Rattle.period_keys.specs.LookUps.{periods_by, periods_of}
use Rattle.period_keys.proofs.Leasts.{least_more}
use Rattle.period_keys.proofs.references.least_lack_one_by_one.Goals as goal

pub loop-child-preserved : goal.loop-child-preserved
loop-child-preserved c =
    let child : PeriodRow = c.child-item.result in
    let parents : List Value → List Period = periods_by c.args.parents.now in
    let at_key : periods_of c.of_key.result ≡ parents (key_values c.args.own.now child) = c.of_key.ensures ∙ ap parents c.in_ok-key.ensures in
    least_more (λ (child : PeriodRow) day. IsGap (parents (key_values c.args.own.now child)) child.period day) c.args.children.now c.loop-child.child-index child c.loop-child.found c.first_gap.result c.earlier-found.result
    (omega arith) c.child-item.is c.loop-child.invariant (subst (λ (periods : List Period). IsLeastOf (IsGap periods child.period) c.first_gap.result) at_key c.first_gap.ensures) c.earlier-found.ensures

pub returns : goal.returns
returns c =
    let all : take c.loop-child.child-index c.args.children.now ≡ c.args.children.now = take_all _ _ (omega arith) in
    subst (λ (rows : List PeriodRow). IsLeastOf (LacksKeyOf c.args.own.now rows (periods_by c.args.parents.now)) c.loop-child.found) all c.loop-child.invariant
