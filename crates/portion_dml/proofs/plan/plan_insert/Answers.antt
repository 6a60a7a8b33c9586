use Rattle.std.proofs.Common.{◌≡◌, ◌∙◌, ◌⊎◌, List, Ok, Err, Result, ap, subst}
use Rattle.std.specs.Prelude.{IfErr, IfOk, IsTrue}
use Rattle.catalog_core.specs.change.EmptyRows.{has_empty_row}
use Rattle.catalog_core.specs.declared.change.Action.{Action}
use Rattle.catalog_core.specs.declared.change.Action.TheVariants.{Insert}
use Rattle.catalog_core.specs.declared.change.InsertedRow.{InsertedRow}
use Rattle.catalog_core.specs.declared.change.Plan.{Plan}
use Rattle.period_core.specs.declared.refusal.Refusal.{Refusal}
use Rattle.period_core.specs.declared.refusal.Refusal.TheVariants.{EmptyPeriod, Memory}
use Rattle.period_core.specs.declared.version.VersionRow.{VersionRow}
use Rattle.portion_dml.specs.Plans.{Plans}
use Rattle.portion_dml.proofs.Planned.{insert_gives}
use Rattle.portion_dml.proofs.plan.plan_insert.Goals as goal

-- a plan over any versions is one over these
over_these : (r : Result Plan Refusal) (given : List InsertedRow) (action : Action) (current : List VersionRow) → Insert given ≡ action
    → IfOk r (λ plan. (versions : List VersionRow) → Plans (Insert given) versions plan) → IfOk r (λ plan. Plans action current plan)
over_these (Ok plan) given action current is plans = subst (λ (a : Action). Plans a current plan) is (plans current)
over_these (Err refusal) given action current is plans = plans

pub returns-clause-plan : goal.returns-clause-plan
returns-clause-plan c =
    let is : Insert c.from_vec.result ≡ c.args.change.now.action = ap Insert (c.from_vec.ensures ∙ c.in_ok-given.ensures ∙ c.given_by.ensures) ∙ insert_gives c.args.change.now.action c.requires in
    over_these c.plan_given.result c.from_vec.result c.args.change.now.action c.args.current.now is c.plan_given.ensures.plan

pub returns-clause-refused : goal.returns-clause-refused
returns-clause-refused c =
    let is : Insert c.from_vec.result ≡ c.args.change.now.action = ap Insert (c.from_vec.ensures ∙ c.in_ok-given.ensures ∙ c.given_by.ensures) ∙ insert_gives c.args.change.now.action c.requires in
    subst (λ (a : Action). IfErr c.plan_given.result (λ refusal. ((refusal ≡ EmptyPeriod) × IsTrue (has_empty_row a)) ⊎ (refusal ≡ Memory))) is c.plan_given.ensures.refused
