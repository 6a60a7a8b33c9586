use Rattle.std.proofs.Common.{sym, subst}
use Rattle.temporal_model.specs.Snapshot.{Equivalent}
use Rattle.catalog_core.specs.query.Queries.{Query, plain_query}
use Rattle.snapshot_audit.specs.Differences.{AreRowsOf}
use Rattle.snapshot_audit.proofs.QueryLists.{adds_alone, rows_staggered}
use Rattle.snapshot_audit.proofs.DifferenceSteps.{found}
use Rattle.snapshot_audit.proofs.differences.first_difference.Goals as goal

pub earliest_of_all-requires-clause-lists : goal.earliest_of_all-requires-clause-lists
earliest_of_all-requires-clause-lists c =
    let are : AreRowsOf c.args.tables.now (plain_query c.args.query.now) c.as_slice.result.now =
    subst (AreRowsOf c.args.tables.now (plain_query c.args.query.now)) (sym c.as_slice.ensures.value)
    (adds_alone c.args.tables.now (plain_query c.args.query.now) c.new-lists.result.items c.add_query_rows.new.lists.items c.new-lists.ensures.items c.in_ok-add_query_rows.ensures) in
    rows_staggered c.args.tables.now (plain_query c.args.query.now) c.as_slice.result.now are

pub returns : goal.returns
returns c =
    let query : Query = plain_query c.args.query.now in
    let are : AreRowsOf c.args.tables.now query c.as_slice.result.now =
    subst (AreRowsOf c.args.tables.now query) (sym c.as_slice.ensures.value)
    (adds_alone c.args.tables.now query c.new-lists.result.items c.add_query_rows.new.lists.items c.new-lists.ensures.items c.in_ok-add_query_rows.ensures) in
    let same : Equivalent c.args.rows.now c.as_slice-2.result.now =
    subst (Equivalent c.args.rows.now) (sym c.as_slice-2.ensures) (subst (λ l. Equivalent l c.in_ok-answer.answer) c.in_ok-copied.ensures c.in_ok-answer.ensures.same) in
    found query c.as_slice.result.now c.as_slice-2.result.now c.earliest_of_all.result c.earliest_of_all.ensures c.args.tables.now c.args.rows.now same are
