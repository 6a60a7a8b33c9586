use Rattle.std.proofs.Common.{◌++◌, List, sym, subst}
use Rattle.std.specs.Global.{Vec}
use Rattle.period_core.specs.declared.row.PeriodRow.{PeriodRow}
use Rattle.sequenced_ops.specs.Outputs.{IsGathered, IsGiven, IsSelected}
use Rattle.sequenced_ops.specs.declared.outputs.JoinOutput.{JoinOutput}
use Rattle.sequenced_ops.proofs.Gathered.{SelectsMore, given_columns, given_pairs, selected_both}
use Rattle.sequenced_ops.proofs.Logic.{if_ok_weaker}
use Rattle.sequenced_ops.proofs.outputs.given.Goals as goal

pub returns-in-Pairs : goal.returns-in-Pairs
returns-in-Pairs c = λ all gathered.
    let conjuncts = c.args.conjuncts.now in
    let pairs : List PeriodRow = c.args.pairs.items in
    subst (λ (o : JoinOutput). IsGiven conjuncts o all pairs) (sym c.in-Pairs.is)
    (given_pairs conjuncts all c.args.selected.items pairs
    (subst (λ (o : JoinOutput). IsGathered conjuncts o all c.args.selected.items pairs) c.in-Pairs.is gathered))

pub returns-in-Columns : goal.returns-in-Columns
returns-in-Columns c =
    let conjuncts = c.args.conjuncts.now in
    let columns = c.in-Columns.columns.now in
    let selected : List PeriodRow = c.args.selected.items in
    let pairs : List PeriodRow = c.args.pairs.items in
    if_ok_weaker c.select_more.result _ _
    (λ (rows : Vec PeriodRow) more all gathered.
    let step : SelectsMore conjuncts columns selected pairs rows.items =
    subst (λ (l : List PeriodRow). SelectsMore conjuncts columns selected l rows.items) c.as_slice.ensures.value more in
    given_columns conjuncts c.args.output all selected pairs rows.items
    (λ done before.
    subst (λ (o : JoinOutput). IsGiven conjuncts o (done ++ pairs) rows.items) (sym c.in-Columns.is)
    (selected_both conjuncts columns done pairs selected rows.items
    (subst (λ (o : JoinOutput). IsSelected conjuncts o done selected) c.in-Columns.is before) step))
    gathered)
    c.select_more.ensures
