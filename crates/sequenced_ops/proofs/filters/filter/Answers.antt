use Rattle.std.proofs.Common.{◌≡◌, ◌∷◌, [], List, true, false, length, sym, ◌∙◌, ap, subst, arith}
use Rattle.std.proofs.lemmas.List.{nil_from_length}
use Rattle.catalog_core.specs.Conditions.{meets}
use Rattle.period_core.specs.declared.row.PeriodRow.{PeriodRow}
use Rattle.sequenced_ops.specs.Operations.{Cond}
use Rattle.sequenced_ops.proofs.Logic.{none_before, none_left, part_moved, part_same}
use Rattle.sequenced_ops.proofs.TwoRows.{holds-push, holds-nil}
use Rattle.sequenced_ops.proofs.Selections.{SelectionLeft, row_accepted, row_refused}
use Rattle.sequenced_ops.proofs.filters.filter.Goals as goal

pub loop-row-preserved-in-Continue-1 : goal.loop-row-preserved-in-Continue-1
loop-row-preserved-in-Continue-1 c =
    let condition : Cond = c.args.condition.now in
    let rest : List PeriodRow = c.loop-row.row-iterator.rest.items in
    let left : List PeriodRow = c.next.new.self.rest.items in
    let row : PeriodRow = c.in-Some.row in
    let is : rest ≡ row ∷ left = c.in-Some.ensures.steps.0 in
    let old : SelectionLeft condition c.args.rows.items c.loop-row.kept.items (row ∷ left) = subst (SelectionLeft condition c.args.rows.items c.loop-row.kept.items) is c.loop-row.invariant in
    let met : meets condition row.values ≡ true = ap (meets condition) (sym c.as_slice.ensures) ∙ sym c.holds.ensures ∙ c.if-holds.true in
    rw c.in_ok-push.ensures.items
    (λ day vs. part_moved (old day vs) (holds-push c.loop-row.kept.items row day vs) (row_accepted condition row left met day vs))

pub loop-row-preserved : goal.loop-row-preserved
loop-row-preserved c = λ day vs.
    let condition : Cond = c.args.condition.now in
    let rest : List PeriodRow = c.loop-row.row-iterator.rest.items in
    let left : List PeriodRow = c.next.new.self.rest.items in
    let row : PeriodRow = c.in-Some.row in
    let is : rest ≡ row ∷ left = c.in-Some.ensures.steps.0 in
    let old : SelectionLeft condition c.args.rows.items c.loop-row.kept.items (row ∷ left) = subst (SelectionLeft condition c.args.rows.items c.loop-row.kept.items) is c.loop-row.invariant in
    let not : meets condition row.values ≡ false = ap (meets condition) (sym c.as_slice.ensures) ∙ sym c.holds.ensures ∙ c.if-holds.false in
    part_same (old day vs) (row_refused condition row left not day vs)

pub returns : goal.returns
returns c = λ day vs.
    let condition : Cond = c.args.condition.now in
    let rest : List PeriodRow = c.loop-row.row-iterator.rest.items in
    let none : length rest ≡ 0 = omega (arith, c.in-None.ensures.steps.0) in
    let is : rest ≡ [] = nil_from_length rest none in
    let old : SelectionLeft condition c.args.rows.items c.loop-row.kept.items [] = subst (SelectionLeft condition c.args.rows.items c.loop-row.kept.items) is c.loop-row.invariant in
    none_left (old day vs) (λ h. holds-nil day vs h.0)

pub loop-row-init : goal.loop-row-init
loop-row-init c =
    let condition : Cond = c.args.condition.now in
    let rows : List PeriodRow = c.args.rows.items in
    subst (λ (kept : List PeriodRow). SelectionLeft condition rows kept c.into_iter-row-iterator.result.rest.items) (sym c.new-kept.ensures.items)
    (subst (SelectionLeft condition rows []) (sym c.into_iter-row-iterator.ensures.into_iter_gives.0) (λ day vs. none_before (holds-nil day vs) (λ h. h, λ h. h)))
