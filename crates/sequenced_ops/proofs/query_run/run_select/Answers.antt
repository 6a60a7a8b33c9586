use Rattle.std.proofs.Common.{◌≡◌, ◌∷◌, ℕ, List, map, sym, ◌∙◌, ap, subst}
use Rattle.std.specs.Global.{Vec}
use Rattle.period_core.specs.declared.row.PeriodRow.{PeriodRow}
use Rattle.catalog_core.specs.declared.query.AnswerColumn.{AnswerColumn}
use Rattle.catalog_core.specs.declared.query.resolved.QueryReference.{QueryReference}
use Rattle.catalog_core.specs.query.Queries.{one, rows_for}
use Rattle.history_model.specs.OrdinaryQuery.{InAnswerOver}
use Rattle.sequenced_ops.specs.Operations.{Cond, InProjection, SnapshotsAre}
use Rattle.sequenced_ops.specs.Planning.{InJoined}
use Rattle.sequenced_ops.proofs.Fronts.{behind, first_of}
use Rattle.sequenced_ops.proofs.Logic.{if_ok_weaker}
use Rattle.sequenced_ops.proofs.SelectRows.{select_rows}
use Rattle.sequenced_ops.proofs.query_run.run_select.Goals as goal

pub returns : goal.returns
returns c =
    let tables = c.args.tables.now in
    let select = c.args.select.now in
    let references : List QueryReference = c.as_slice.result.now in
    let reference = c.reference-item.result in
    let more = behind references in
    let columns : List ℕ = c.as_slice-3.result.now in
    let is : references ≡ reference ∷ more =
    first_of references reference c.in-len1-up.len_at_least c.reference-item.is in
    let positions : columns ≡ map (λ (item : AnswerColumn). item.position) select.items =
    c.as_slice-3.ensures.value ∙ c.in_ok-columns.ensures
    ∙ ap (map (λ (item : AnswerColumn). item.position)) c.as_slice-2.ensures in
    if_ok_weaker c.join_references.result
    (λ (joined : Vec PeriodRow).
    SnapshotsAre
    (InProjection columns
    (InJoined tables c.as_slice-conjuncts.result.now c.rows_for-first.result.now more))
    joined.items)
    (λ (rows : Vec PeriodRow). SnapshotsAre (InAnswerOver (one select) tables) rows.items)
    (λ joined p.
    select_rows tables select reference more columns joined.items
    (sym c.as_slice.ensures.value ∙ is) positions
    (subst (λ (k : List Cond).
    SnapshotsAre
    (InProjection columns (InJoined tables k (rows_for tables reference) more))
    joined.items)
    c.as_slice-conjuncts.ensures
    (subst (λ (l : List PeriodRow).
    SnapshotsAre
    (InProjection columns (InJoined tables c.as_slice-conjuncts.result.now l more))
    joined.items)
    c.rows_for-first.ensures p)))
    c.join_references.ensures
