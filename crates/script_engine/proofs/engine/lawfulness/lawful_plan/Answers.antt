use Rattle.std.proofs.Common.{◌≡◌, ◌∙◌, ℕ, false, inl, inr, [], List, Option, ap, ap₂, map, refl, subst, sym}
use Rattle.std.specs.Option.{option_map_or}
use Rattle.std.proofs.lemmas.Bool.{false≢true}
use Rattle.std.proofs.lemmas.Result.{err_from_is_err_and}
use Rattle.catalog_core.specs.change.EmptyRows.{has_empty_row}
use Rattle.catalog_core.specs.declared.change.Action.{Action}
use Rattle.period_core.specs.declared.version.VersionRow.{VersionRow}
use Rattle.period_core.specs.declared.row.PeriodRow.{PeriodRow}
use Rattle.period_keys.specs.Keys.{key_values}
use Rattle.period_keys.specs.Planned.{IsPlanOf}
use Rattle.period_keys.specs.Rows.{RowsByKey}
use Rattle.period_keys.specs.TableRows.{TableRows}
use Rattle.script_engine.proofs.Indexed.{rows_of_table, rows_there}
use Rattle.script_engine.proofs.Refused.{days-planned}
use Rattle.script_engine.proofs.engine.lawfulness.lawful_plan.Goals as goal

-- the plan is over the rows of the table that is judged
pub returns-in_err-judge_plan-clause-refused : goal.returns-in_err-judge_plan-clause-refused
returns-in_err-judge_plan-clause-refused c =
    let p = err_from_is_err_and c.from_residual-in_err-judge_plan.result c.from_residual-in_err-judge_plan.ensures.1 in
    let action : Action = c.args.change.action in
    let planned : IsPlanOf action c.in-Some.table.now.rows c.in_ok-plan.plan = c.in_ok-plan.ensures.plan in
    rw (p.1, p.2) (elim c.in_err-judge_plan.ensures.fault [
      | inl memory ↦ inr (inl memory)
      | inr fault ↦ inr (inr (
        λ empty.
            let days : has_empty_row action ≡ false = days-planned action planned.listed c.in_ok-plan.plan planned.plans in
            false≢true (sym days ∙ empty),
        fault.0,
        λ before. fault.1 c.args.change before refl planned,
      ))
    ])

pub returns-clause-plan : goal.returns-clause-plan
returns-clause-plan c =
    let number = c.args.change.table in
    subst (λ (rows : List VersionRow). IsPlanOf c.args.change.action rows c.in_ok-plan.plan)
    (sym (rows_of_table c.args.tables.now number c.in-Some.table.now c.in-Some.ensures)) c.in_ok-plan.ensures.plan

pub returns-clause-lawful : goal.returns-clause-lawful
returns-clause-lawful c = λ before. c.in_ok-judge_plan.ensures.lawful c.args.change before refl c.in_ok-plan.ensures.plan

pub returns-clause-keys : goal.returns-clause-keys
returns-clause-keys c = λ table is.
    let tables : List TableRows = c.args.tables.now in
    let there = rows_there tables c.args.change.table c.in-Some.table.now c.in-Some.ensures in
    let same : c.in-Some.table.now.positions ≡ table.positions = ap (λ (found : Option RowsByKey). option_map_or (λ (t : RowsByKey). t.positions) found []) (sym there ∙ is) in
    c.in_ok-keys.ensures
    ∙ ap₂ (λ (positions : List ℕ) (rows : List PeriodRow). map (key_values positions) rows) (c.positions.ensures ∙ c.rows.ensures.positions ∙ same) c.as_slice.ensures
