use Rattle.std.proofs.Common.{◌≡◌, List, Ok, Err, Result, sym, subst}
use Rattle.std.specs.Prelude.{IfOk}
use Rattle.std.proofs.lemmas.List.Sorted.{IsPermutation-refl}
use Rattle.catalog_core.specs.declared.change.Action.{Action}
use Rattle.catalog_core.specs.declared.change.Action.TheVariants.{Insert}
use Rattle.catalog_core.specs.declared.change.InsertedRow.{InsertedRow}
use Rattle.catalog_core.specs.declared.change.Plan.{Plan}
use Rattle.period_core.specs.declared.refusal.Refusal.{Refusal}
use Rattle.period_core.specs.declared.version.VersionRow.{VersionRow}
use Rattle.portion_dml.specs.Plans.{Plans}
use Rattle.period_keys.specs.Planned.{IsPlanOf}
use Rattle.period_keys.proofs.plans.plan_change.Goals as goal

-- the plan of an INSERT is one over any rows
over_rows : (r : Result Plan Refusal) (given : List InsertedRow) (action : Action) (rows : List VersionRow) → action ≡ Insert given
    → IfOk r (λ plan. (current : List VersionRow) → Plans (Insert given) current plan) → IfOk r (λ plan. IsPlanOf action rows plan)
over_rows (Ok plan) given action rows is plans = record {
  listed = rows;
  are_rows = IsPermutation-refl rows;
  plans = subst (λ (a : Action). Plans a rows plan) (sym is) (plans rows);
}
over_rows (Err refusal) given action rows is plans = plans

pub returns-in-Insert-clause-plan : goal.returns-in-Insert-clause-plan
returns-in-Insert-clause-plan c = over_rows c.plan_given.result c.in-Insert.given c.args.action c.args.table.now.rows c.in-Insert.is c.plan_given.ensures.plan
