use Rattle.std.proofs.Common.{◌≡◌, ◌+◌, ◌++◌, ◌∷◌, [], List, take, sym, ◌∙◌, ap, subst}
use Rattle.std.proofs.lemmas.List.{take_all, take_more}
use Rattle.catalog_core.specs.Conditions.{meets}
use Rattle.period_core.specs.declared.row.PeriodRow.{PeriodRow}
use Rattle.sequenced_ops.specs.Operations.{Cond}
use Rattle.sequenced_ops.proofs.Selections.{SelectedSoFar, selected_none, selected_next}
use Rattle.sequenced_ops.proofs.selection.select.Goals as goal

pub loop-row-init : goal.loop-row-init
loop-row-init c =
    subst (λ (l : List PeriodRow). SelectedSoFar (meets c.args.condition.now) c.args.columns.now l []) (sym c.new-selected.ensures.items)
    (selected_none (meets c.args.condition.now) c.args.columns.now)

pub loop-row-preserved : goal.loop-row-preserved
loop-row-preserved c =
    let condition : Cond = c.args.condition.now in
    let columns = c.args.columns.now in
    let rows : List PeriodRow = c.args.rows.now in
    let i = c.loop-row.row-index in
    let row : PeriodRow = c.row-item.result in
    let selected : List PeriodRow = c.loop-row.selected.items in
    let more : List PeriodRow = c.select_into.new.rows.items in
    let next : take (i + 1) rows ≡ take i rows ++ row ∷ [] =
    take_more rows i row c.loop-row-test.true ∙ ap (λ (r : PeriodRow). take i rows ++ r ∷ []) (sym c.row-item.is) in
    subst (SelectedSoFar (meets condition) columns more) (sym next)
    (selected_next (meets condition) columns selected more (take i rows) row c.loop-row.invariant c.in_ok-select_into.ensures.added)

pub returns : goal.returns
returns c =
    let rows : List PeriodRow = c.args.rows.now in
    let all : take c.loop-row.row-index rows ≡ rows = take_all c.loop-row.row-index rows c.loop-row-test.false in
    subst (SelectedSoFar (meets c.args.condition.now) c.args.columns.now c.loop-row.selected.items) all c.loop-row.invariant
