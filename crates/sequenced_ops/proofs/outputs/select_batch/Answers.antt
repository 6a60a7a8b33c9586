use Rattle.std.proofs.Common.{◌++◌, List, sym, subst}
use Rattle.period_core.specs.declared.row.PeriodRow.{PeriodRow}
use Rattle.sequenced_ops.specs.Outputs.{IsSelected}
use Rattle.sequenced_ops.specs.declared.outputs.JoinOutput.{JoinOutput}
use Rattle.sequenced_ops.proofs.Gathered.{SelectsMore, batch_selected, selected_both}
use Rattle.sequenced_ops.proofs.outputs.select_batch.Goals as goal

pub returns-in_ok-rows-in-Columns : goal.returns-in_ok-rows-in-Columns
returns-in_ok-rows-in-Columns c = λ all gathered.
    let conjuncts = c.args.conjuncts.now in
    let columns = c.in-Columns.columns.now in
    let selected : List PeriodRow = c.args.selected.items in
    let pairs : List PeriodRow = c.args.pairs.now.items in
    let rows : List PeriodRow = c.in_ok-rows-in-Columns.rows.items in
    let step : SelectsMore conjuncts columns selected pairs rows =
    subst (λ (l : List PeriodRow). SelectsMore conjuncts columns selected l rows) c.as_slice.ensures.value c.in_ok-rows-in-Columns.ensures in
    rw c.clear.ensures.items
    (batch_selected conjuncts c.args.output all selected pairs rows
    (λ done before.
    subst (λ (o : JoinOutput). IsSelected conjuncts o (done ++ pairs) rows) (sym c.in-Columns.is)
    (selected_both conjuncts columns done pairs selected rows
    (subst (λ (o : JoinOutput). IsSelected conjuncts o done selected) c.in-Columns.is before) step))
    gathered)
