use Rattle.std.proofs.Common.{◌≡◌, ◌+◌, ◌++◌, ◌∷◌, [], List, length, take, sym, ◌∙◌, ap, subst, arith}
use Rattle.std.proofs.lemmas.List.{take_all, take_more}
use Rattle.period_core.specs.declared.row.PeriodRow.{PeriodRow}
use Rattle.sequenced_ops.specs.Planning.{HasWidth}
use Rattle.sequenced_ops.proofs.Widths.{width_none, width_more}
use Rattle.sequenced_ops.proofs.key_joins.width_of.Goals as goal

pub loop-row-init : goal.loop-row-init
loop-row-init c = width_none _

pub loop-row-preserved : goal.loop-row-preserved
loop-row-preserved c =
    let rows : List PeriodRow = c.args.rows.now in
    let i = c.loop-row.row-index in
    let row : PeriodRow = c.row-item.result in
    let next : take (i + 1) rows ≡ take i rows ++ row ∷ [] =
    take_more rows i row c.loop-row-test.true ∙ ap (λ (r : PeriodRow). take i rows ++ r ∷ []) (sym c.row-item.is) in
    let same : length row.values ≡ length c.as_slice-width.result.now = omega (arith, ap length c.as_slice.ensures) in
    subst (HasWidth (length c.as_slice-width.result.now)) (sym next) (width_more (length c.as_slice-width.result.now) (take i rows) row c.loop-row.invariant same)

pub returns : goal.returns
returns c =
    let rows : List PeriodRow = c.args.rows.now in
    let all : take c.loop-row.row-index rows ≡ rows = take_all c.loop-row.row-index rows c.loop-row-test.false in
    subst (HasWidth (length c.as_slice-width.result.now)) all c.loop-row.invariant
