use Rattle.std.proofs.Common.{◌≡◌, ◌∙◌, ap, arith, length, subst, sym}
use Rattle.std.proofs.lemmas.List.{take_all}
use Rattle.std.proofs.lemmas.List.Elements.{All-more}
use Rattle.period_core.specs.declared.row.PeriodRow.{PeriodRow}
use Rattle.snapshot_audit.specs.Keys.{HaveWidth}
use Rattle.snapshot_audit.proofs.shared_columns.width_of.Goals as goal

pub loop-row-preserved : goal.loop-row-preserved
loop-row-preserved c =
    let has_width : PeriodRow → Type 0 = λ row. length row.values ≡ length c.as_slice-width.result.now in
    All-more has_width c.args.rows.now c.loop-row.row-index c.row-item.result (omega arith) c.loop-row.invariant
    (subst has_width c.row-item.is (ap length (sym c.as_slice.ensures) ∙ c.if-as_slice-width.false))

pub returns : goal.returns
returns c = subst (HaveWidth (length c.as_slice-width.result.now)) (take_all c.loop-row.row-index c.args.rows.now (omega arith)) c.loop-row.invariant
