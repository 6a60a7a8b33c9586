use Rattle.std.proofs.Common.{◌++◌, ◌∷◌, [], List, get_or, sym, subst}
use Rattle.period_core.specs.declared.version.VersionRow.{VersionRow}
use Rattle.portion_dml.specs.Plans.{Plans}
use Rattle.period_keys.proofs.Answered.{on_ok}
use Rattle.period_keys.proofs.PlacedRows.{one_row}
use Rattle.period_keys.proofs.PlanParts.{plans_joined}
use Rattle.period_keys.proofs.plans.plan_one.Goals as goal

pub returns : goal.returns
returns c = on_ok c.append_plan.result (λ is. λ before d plans.
    let action = c.args.action.now in
    let one : List VersionRow = get_or c.args.rows.now c.args.at d ∷ [] in
    subst (Plans action (before ++ one)) (sym is)
    (plans_joined action before one c.args.plan.now c.in_ok-own.own c.requires.given plans (subst (λ (xs : List VersionRow). Plans action xs c.in_ok-own.own) (one_row c.args.rows.now c.args.at d c.requires.at) c.in_ok-own.ensures)))
    c.append_plan.ensures
