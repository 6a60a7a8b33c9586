use Rattle.std.proofs.Common.{◌≡◌, ◌↔◌, ◌∷◌, ◌-◌, [], ℤ, List, length, take, drop, sym, ap, ◌∙◌, subst, arith}
use Rattle.std.proofs.lemmas.Result.{IfOk-weaker}
use Rattle.std.proofs.lemmas.List.{nil_from_length}
use Rattle.period_core.specs.declared.value.Value.{Value}
use Rattle.period_core.specs.declared.row.PeriodRow.{PeriodRow}
use Rattle.temporal_model.specs.Snapshot.{InSnapshot}
use Rattle.catalog_core.specs.declared.query.resolved.QueryReference.{QueryReference}
use Rattle.history_model.specs.OrdinaryQuery.{VisibleInTables}
use Rattle.snapshot_audit.specs.Selections.{InRestOn}
use Rattle.snapshot_audit.proofs.SelectSteps.{first_of}
use Rattle.snapshot_audit.proofs.SelectRowSteps.{rest_last, rest_more}
use Rattle.snapshot_audit.proofs.select_rows.+rest_rows.Goals as goal

pub returns-then-is_empty : goal.returns-then-is_empty
returns-then-is_empty t c =
    let references : List QueryReference = c.args.references.now in
    let reference : QueryReference = c.reference-item.result in
    let after : List QueryReference = take (length references - 1) (drop 1 references) in
    let none : length after ≡ 0 = grind (arith, c.is_empty.ensures, c.if-is_empty.true) in
    let is : references ≡ reference ∷ [] =
    first_of references reference c.in-len1-up.len_at_least c.reference-item.is ∙ ap (λ (l : List QueryReference). reference ∷ l) (nil_from_length after none) in
    IfOk-weaker c.joined.result _ _
    (λ pairs are day row.
    subst (λ l. InSnapshot pairs.items day row ↔ InRestOn (VisibleInTables c.args.tables.now) c.args.select.now l c.args.fronts.now day row) (sym is)
    (rest_last c.args.tables.now c.args.select.now reference c.args.fronts.now c.rows_for-others.result.now pairs.items c.rows_for-others.ensures are day row))
    c.joined.ensures

pub returns : goal.returns
returns t c =
    let references : List QueryReference = c.args.references.now in
    let reference : QueryReference = c.reference-item.result in
    let after : List QueryReference = take (length references - 1) (drop 1 references) in
    let is : references ≡ reference ∷ after = first_of references reference c.in-len1-up.len_at_least c.reference-item.is in
    let rows : List PeriodRow = c.in_ok-rows.rows.items in
    IfOk-weaker c.rest_rows.result _ _
    (λ result same day row.
    let its : (d : ℤ) (r : List Value) → (InSnapshot result.items d r ↔ InRestOn (VisibleInTables c.args.tables.now) c.args.select.now after rows d r) =
    λ d r. subst (λ l. InSnapshot result.items d r ↔ InRestOn (VisibleInTables c.args.tables.now) c.args.select.now after l d r) c.as_slice.ensures.value (same d r) in
    subst (λ l. InSnapshot result.items day row ↔ InRestOn (VisibleInTables c.args.tables.now) c.args.select.now l c.args.fronts.now day row) (sym is)
    (rest_more c.args.tables.now c.args.select.now reference c.args.fronts.now c.rows_for-others.result.now rows c.rows_for-others.ensures after result.items
    c.in_ok-rows.ensures its day row))
    c.rest_rows.ensures
