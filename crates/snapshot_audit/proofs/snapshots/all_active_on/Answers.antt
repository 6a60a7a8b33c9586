use Rattle.std.proofs.Common.{List, Bor, subst}
use Rattle.std.specs.Global.{Vec}
use Rattle.period_core.specs.declared.row.PeriodRow.{PeriodRow}
use Rattle.snapshot_audit.specs.ActiveRows.{AreActive}
use Rattle.snapshot_audit.proofs.Zips.{zip_more}
use Rattle.snapshot_audit.proofs.snapshots.all_active_on.Goals as goal

pub loop-table-preserved : goal.loop-table-preserved
loop-table-preserved c =
    let tables : List (List PeriodRow) = c.as_slice-table-items.result.now in
    let active : Vec (Bor PeriodRow) = c.in_ok-active_on.field-0 in
    let one : AreActive c.table-item.result active.items c.args.day = subst (λ rows. AreActive rows active.items c.args.day) c.as_slice.ensures c.in_ok-active_on.ensures in
    rw c.in_ok-push.ensures.items
    (zip_more (λ rows (active : Vec (Bor PeriodRow)). AreActive rows active.items c.args.day) tables c.loop-table.seen.items c.loop-table.table-index
    c.table-item.result active c.loop-table-test.true c.table-item.is c.loop-table.invariant one)
