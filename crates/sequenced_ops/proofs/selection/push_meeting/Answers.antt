use Rattle.std.proofs.Common.{◌≡◌, List, true, sym, ◌∙◌, ap}
use Rattle.history_model.specs.OrdinaryQuery.{meets_all}
use Rattle.period_core.specs.declared.row.PeriodRow.{PeriodRow}
use Rattle.sequenced_ops.specs.Operations.{Cond}
use Rattle.sequenced_ops.proofs.Logic.{on_ok_weaker}
use Rattle.sequenced_ops.proofs.Selections.{projected_selected}
use Rattle.sequenced_ops.proofs.selection.push_meeting.Goals as goal

pub returns-then-meets_all : goal.returns-then-meets_all
returns-then-meets_all c =
    let conjuncts : List Cond = c.args.conjuncts.now in
    let row : PeriodRow = c.args.row.now in
    let met : meets_all conjuncts row.values ≡ true = ap (meets_all conjuncts) (sym c.as_slice.ensures) ∙ sym c.meets_all.ensures ∙ c.if-meets_all.true in
    on_ok_weaker c.project_into.result _ _
    (λ step. projected_selected (meets_all conjuncts) c.args.columns.now c.args.rows.now.items c.project_into.new.rows.items row met step) c.project_into.ensures.added
