use Rattle.std.proofs.Common.{List, sym, subst}
use Rattle.period_core.specs.declared.row.PeriodRow.{PeriodRow}
use Rattle.catalog_core.specs.declared.query.resolved.Query as code
use Rattle.catalog_core.specs.query.Queries.{plain_query}
use Rattle.snapshot_audit.specs.Differences.{AddsRowsOf}
use Rattle.snapshot_audit.proofs.QueryLists.{adds_select}
use Rattle.snapshot_audit.proofs.query_rows.+add_query_rows.Goals as goal

pub returns-in_ok-push-in-Select : goal.returns-in_ok-push-in-Select
returns-in_ok-push-in-Select t c =
    let old : List (List PeriodRow) = c.args.lists.now.items in
    let tables : List (List PeriodRow) = c.args.tables.now in
    let new : List (List PeriodRow) = c.push.new.self.items in
    subst (λ (q : code.Query). AddsRowsOf tables (plain_query q) old new) (sym c.in-Select.is)
    (subst (AddsRowsOf tables (plain_query (code.Select c.in-Select.select)) old) (sym c.in_ok-push-in-Select.ensures.items)
    (adds_select tables c.in-Select.select old c.in_ok-rows-in-Select.rows.items c.in_ok-list-in-Select.list c.in_ok-rows-in-Select.ensures
    c.in_ok-list-in-Select.ensures.staggered c.in_ok-list-in-Select.ensures.same))
