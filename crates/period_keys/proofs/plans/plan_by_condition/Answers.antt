use Rattle.std.proofs.Common.{List, map, subst}
use Rattle.std.specs.Borrow.{Bor}
use Rattle.catalog_core.specs.declared.change.Action.{Action}
use Rattle.catalog_core.specs.declared.change.Plan.{Plan}
use Rattle.period_core.specs.declared.version.VersionRow.{VersionRow}
use Rattle.portion_dml.specs.Plans.{Plans}
use Rattle.period_keys.specs.declared.key_rows.KeyRows.{KeyRows}
use Rattle.period_keys.specs.Rows.{rows_of_lists}
use Rattle.period_keys.specs.Secondary.{AreRowsWithin}
use Rattle.period_keys.proofs.PlanParts.{if_ok, plan_of_passing}
use Rattle.period_keys.proofs.plans.plan_by_condition.Goals as goal

pub returns : goal.returns
returns c =
    let action : Action = c.args.action.now in
    let found : List VersionRow = rows_of_lists (map (λ (g : Bor KeyRows). g.now) c.in_ok-groups_of.field-0.items) in
    let within : AreRowsWithin c.in_ok-rows.rows c.args.table.now.rows found = c.in_ok-groups_of.ensures in
    if_ok c.plan_over.result (λ (plan : Plan). Plans action found plan) _
    (λ plan plans. plan_of_passing action within.keep c.args.table.now.rows plan (λ v t. within.kept v (c.in_ok-rows.ensures v t)) (subst (λ (rows : List VersionRow). Plans action rows plan) within.are_kept plans))
    c.plan_over.ensures
