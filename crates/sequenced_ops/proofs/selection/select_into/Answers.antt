use Rattle.std.proofs.Common.{◌≡◌, true, false, sym, ◌∙◌, ap}
use Rattle.catalog_core.specs.Conditions.{meets}
use Rattle.period_core.specs.declared.row.PeriodRow.{PeriodRow}
use Rattle.sequenced_ops.specs.Operations.{Cond}
use Rattle.sequenced_ops.proofs.Logic.{on_ok_weaker}
use Rattle.sequenced_ops.proofs.Selections.{AddsProjection-accepted, AddsProjection-refused, projected_selected}
use Rattle.sequenced_ops.proofs.selection.select_into.Goals as goal

pub returns-then-holds-clause-added : goal.returns-then-holds-clause-added
returns-then-holds-clause-added c =
    let condition : Cond = c.args.condition.now in
    let row : PeriodRow = c.args.row.now in
    let met : meets condition row.values ≡ true = ap (meets condition) (sym c.as_slice.ensures) ∙ sym c.holds.ensures ∙ c.if-holds.true in
    on_ok_weaker c.project_into.result _ _
    (λ step. projected_selected (meets condition) c.args.columns.now c.args.rows.now.items c.project_into.new.rows.items row met step) c.project_into.ensures.added

pub returns-then-holds-clause-behind : goal.returns-then-holds-clause-behind
returns-then-holds-clause-behind c =
    let condition : Cond = c.args.condition.now in
    let row : PeriodRow = c.args.row.now in
    let met : meets condition row.values ≡ true = ap (meets condition) (sym c.as_slice.ensures) ∙ sym c.holds.ensures ∙ c.if-holds.true in
    on_ok_weaker c.project_into.result _ _
    (AddsProjection-accepted (meets condition) c.args.columns.now row c.args.rows.now.items c.project_into.new.rows.items met) c.project_into.ensures.behind

pub returns-clause-behind : goal.returns-clause-behind
returns-clause-behind c =
    let condition : Cond = c.args.condition.now in
    let row : PeriodRow = c.args.row.now in
    let not : meets condition row.values ≡ false = ap (meets condition) (sym c.as_slice.ensures) ∙ sym c.holds.ensures ∙ c.if-holds.false in
    AddsProjection-refused (meets condition) c.args.columns.now row c.args.rows.now.items not
