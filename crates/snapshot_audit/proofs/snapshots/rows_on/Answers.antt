use Rattle.std.proofs.Common.{◌↔◌, sym, subst}
use Rattle.std.proofs.lemmas.Result.{IfOk-weaker}
use Rattle.temporal_model.specs.Snapshot.{InSnapshot}
use Rattle.snapshot_audit.specs.ActiveRows.{InActive}
use Rattle.snapshot_audit.proofs.ActiveFacts.{active_snapshot}
use Rattle.snapshot_audit.proofs.Once.{set_by}
use Rattle.snapshot_audit.proofs.snapshots.rows_on.Goals as goal

pub returns : goal.returns
returns c =
    IfOk-weaker c.values_of.result _ _ (λ set is. set_by (InActive c.as_slice.result.now) (InSnapshot c.args.rows.now c.args.day) set.items is
    (λ values. subst (λ l. InActive l values ↔ InSnapshot c.args.rows.now c.args.day values) (sym c.as_slice.ensures.value)
    (active_snapshot c.args.rows.now c.in_ok-active.active.items c.args.day c.in_ok-active.ensures values))) c.values_of.ensures
