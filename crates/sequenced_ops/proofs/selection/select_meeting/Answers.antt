use Rattle.std.proofs.Common.{◌≡◌, ◌+◌, ◌++◌, ◌∷◌, [], List, take, sym, ◌∙◌, ap, subst}
use Rattle.std.proofs.lemmas.List.{take_all, take_more}
use Rattle.history_model.specs.OrdinaryQuery.{meets_all}
use Rattle.period_core.specs.declared.row.PeriodRow.{PeriodRow}
use Rattle.sequenced_ops.specs.Operations.{Cond}
use Rattle.sequenced_ops.proofs.Selections.{SelectedSoFar, selected_none, selected_next}
use Rattle.sequenced_ops.proofs.selection.select_meeting.Goals as goal

pub loop-row-init : goal.loop-row-init
loop-row-init c =
    subst (λ (l : List PeriodRow). SelectedSoFar (meets_all c.args.conjuncts.now) c.args.columns.now l []) (sym c.in_ok-selected.ensures.items)
    (selected_none (meets_all c.args.conjuncts.now) c.args.columns.now)

pub loop-row-preserved : goal.loop-row-preserved
loop-row-preserved c =
    let conjuncts : List Cond = c.args.conjuncts.now in
    let columns = c.args.columns.now in
    let rows : List PeriodRow = c.args.rows.now in
    let i = c.loop-row.row-index in
    let row : PeriodRow = c.row-item.result in
    let selected : List PeriodRow = c.loop-row.selected.items in
    let more : List PeriodRow = c.push_meeting.new.rows.items in
    let next : take (i + 1) rows ≡ take i rows ++ row ∷ [] =
    take_more rows i row c.loop-row-test.true ∙ ap (λ (r : PeriodRow). take i rows ++ r ∷ []) (sym c.row-item.is) in
    subst (SelectedSoFar (meets_all conjuncts) columns more) (sym next)
    (selected_next (meets_all conjuncts) columns selected more (take i rows) row c.loop-row.invariant c.in_ok-push_meeting.ensures)

pub returns : goal.returns
returns c =
    let rows : List PeriodRow = c.args.rows.now in
    let all : take c.loop-row.row-index rows ≡ rows = take_all c.loop-row.row-index rows c.loop-row-test.false in
    subst (SelectedSoFar (meets_all c.args.conjuncts.now) c.args.columns.now c.loop-row.selected.items) all c.loop-row.invariant
