use Rattle.std.proofs.Common.{◌↔◌, ◌∙◌, subst}
use Rattle.std.proofs.lemmas.Result.{IfOk-weaker}
use Rattle.period_core.specs.declared.row.PeriodRow.{PeriodRow}
use Rattle.temporal_model.specs.Snapshot.{InSnapshot}
use Rattle.history_model.specs.OrdinaryQuery.{VisibleInTables}
use Rattle.snapshot_audit.specs.Selections.{InRestOn}
use Rattle.snapshot_audit.proofs.SelectRowSteps.{rest_all}
use Rattle.snapshot_audit.proofs.select_rows.select_rows.Goals as goal

pub returns : goal.returns
returns c =
    let select = c.args.select.now in
    let front : PeriodRow = record { values = c.from_vec.result; period = c.all_days.result } in
    IfOk-weaker c.rest_rows.result _ _
    (λ rows same. rest_all c.args.tables.now select front rows.items (c.from_vec.ensures ∙ c.new.ensures.items) c.all_days.ensures.start c.all_days.ensures.end
    (λ day row.
    subst (λ l. InSnapshot rows.items day row ↔ InRestOn (VisibleInTables c.args.tables.now) select select.references l day row) c.from_ref.ensures.value
    (subst (λ l. InSnapshot rows.items day row ↔ InRestOn (VisibleInTables c.args.tables.now) select l c.from_ref.result.now day row) c.as_slice-references.ensures.value (same day row))))
    c.rest_rows.ensures
