use Rattle.std.proofs.Common.{◌≡◌, ◌∷◌, [], ◌∙◌, ap, ℕ, List, length, sym, subst, arith}
use borrow.Author.Tests.{eqb-true}
use Rattle.std.specs.Global.{Vec}
use Rattle.std.proofs.lemmas.List.{nil_from_length}
use Rattle.period_core.specs.declared.row.PeriodRow.{PeriodRow}
use Rattle.catalog_core.specs.declared.query.resolved.QueryReference.{QueryReference}
use Rattle.catalog_core.specs.query.Queries.{rows_for}
use Rattle.sequenced_ops.specs.Operations.{Cond, InPairs, InProjection, SnapshotsAre}
use Rattle.sequenced_ops.specs.Planning.{InJoined, InMeeting, IsPruned}
use Rattle.sequenced_ops.proofs.Fronts.{behind, first_of}
use Rattle.sequenced_ops.proofs.Logic.{if_ok_weaker}
use Rattle.sequenced_ops.proofs.SelectRows.{joined_last, joined_more, joined_none, projection_same}
use Rattle.sequenced_ops.proofs.query_run.+join_all.Goals as goal

pub returns-in_default : goal.returns-in_default
returns-in_default t c =
    let tables = c.args.tables.now in
    let conjuncts : List Cond = c.args.conjuncts.now in
    let columns : List ℕ = c.args.columns.now in
    let rows : List PeriodRow = c.args.rows.now in
    let references : List QueryReference = c.args.references.now in
    let none : references ≡ [] =
    nil_from_length references (omega (arith, c.in_default.len_below)) in
    if_ok_weaker c.select_meeting.result
    (λ (kept : Vec PeriodRow).
    SnapshotsAre (InProjection columns (InMeeting conjuncts rows)) kept.items)
    (λ (joined : Vec PeriodRow).
    SnapshotsAre (InProjection columns (InJoined tables conjuncts rows references))
    joined.items)
    (λ kept p.
    subst (λ (l : List QueryReference).
    SnapshotsAre (InProjection columns (InJoined tables conjuncts rows l)) kept.items)
    (sym none)
    (projection_same columns (InMeeting conjuncts rows) (InJoined tables conjuncts rows [])
    kept.items (joined_none tables conjuncts rows) p))
    c.select_meeting.ensures

pub returns-then-is_empty : goal.returns-then-is_empty
returns-then-is_empty t c =
    let tables = c.args.tables.now in
    let conjuncts : List Cond = c.args.conjuncts.now in
    let columns : List ℕ = c.args.columns.now in
    let rows : List PeriodRow = c.args.rows.now in
    let references : List QueryReference = c.args.references.now in
    let reference = c.reference-item.result in
    let none : behind references ≡ [] =
    nil_from_length (behind references)
    (eqb-true (length (behind references)) 0 (sym c.is_empty.ensures ∙ c.if-is_empty.true)) in
    let is : references ≡ reference ∷ [] =
    first_of references reference c.in-len1-up.len_at_least c.reference-item.is
    ∙ ap (λ (l : List QueryReference). reference ∷ l) none in
    if_ok_weaker c.join_next.result _ _
    (λ (joined : Vec PeriodRow) (pairs, pruned, given).
    subst (λ (l : List QueryReference).
    SnapshotsAre (InProjection columns (InJoined tables conjuncts rows l)) joined.items)
    (sym is)
    (projection_same columns (InMeeting conjuncts pairs)
    (InJoined tables conjuncts rows (reference ∷ [])) joined.items
    (joined_last tables conjuncts rows pairs reference
    (subst (λ (l : List PeriodRow). IsPruned conjuncts 0 (InPairs rows l) pairs)
    c.rows_for-others.ensures pruned))
    given))
    c.join_next.ensures

pub returns : goal.returns
returns t c =
    let tables = c.args.tables.now in
    let conjuncts : List Cond = c.args.conjuncts.now in
    let columns : List ℕ = c.args.columns.now in
    let rows : List PeriodRow = c.args.rows.now in
    let references : List QueryReference = c.args.references.now in
    let reference = c.reference-item.result in
    let next : List PeriodRow = c.as_slice.result.now in
    let more = behind references in
    let is : references ≡ reference ∷ more =
    first_of references reference c.in-len1-up.len_at_least c.reference-item.is in
    let (all, pairs, same) = c.in_ok-next.ensures in
    let pruned : IsPruned conjuncts 0 (InPairs rows (rows_for tables reference)) next =
    subst (λ (l : List PeriodRow). IsPruned conjuncts 0 (InPairs rows l) next)
    c.rows_for-others.ensures
    (subst (IsPruned conjuncts 0 (InPairs rows c.rows_for-others.result.now))
    (same ∙ sym c.as_slice.ensures.value) pairs) in
    if_ok_weaker c.join_all.result
    (λ (joined : Vec PeriodRow).
    SnapshotsAre (InProjection columns (InJoined tables conjuncts next more)) joined.items)
    (λ (joined : Vec PeriodRow).
    SnapshotsAre (InProjection columns (InJoined tables conjuncts rows references))
    joined.items)
    (λ joined p.
    subst (λ (l : List QueryReference).
    SnapshotsAre (InProjection columns (InJoined tables conjuncts rows l)) joined.items)
    (sym is)
    (projection_same columns (InJoined tables conjuncts next more)
    (InJoined tables conjuncts rows (reference ∷ more)) joined.items
    (joined_more tables conjuncts rows next reference more pruned) p))
    c.join_all.ensures
