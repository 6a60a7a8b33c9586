use Rattle.std.proofs.Common.{◌≡◌, ◌+◌, length, take, true}
use Rattle.sql_statements.specs.Plain.{plain_query}
use Rattle.statement_resolution.proofs.lemmas.query.Accepted.{Follows, rest_of}
use Rattle.statement_resolution.proofs.lemmas.query.QuerySizes.{size_of}
use Rattle.statement_resolution.proofs.lemmas.query.QueryWalks.{step_faults}
use Rattle.catalog_core.specs.query.Fitting.{are_in_place}
use Rattle.statement_resolution.specs.Faults.{either, faults_among, no_faults}
use Rattle.statement_resolution.specs.query.Faults.{query_faults, side_kinds}
use Rattle.statement_resolution.specs.query.Places.{table_count}
use Rattle.catalog_core.specs.query.Queries as resolved
use Rattle.catalog_core.specs.query.Queries.{references_of}
use Rattle.statement_resolution.specs.query.QueryParts.{first_select, selects_among, selects_of}
use Rattle.statement_resolution.proofs.query.query_conversion.+convert_query.Given as goal

abbrev pub decreases-convert_query : goal.decreases-convert_query
decreases-convert_query l = size_of (plain_query l.query.now)

abbrev pub invariant-loop-step : goal.invariant-loop-step
invariant-loop-step l = record {
  same : query_faults l.catalog.tables (plain_query l.query) ≡ no_faults
      → Follows l.catalog.tables (plain_query l.query) (resolved.plain_query l.left.query) (rest_of l.step-items l.step-index);
  room : l.place + table_count (selects_among (rest_of l.step-items l.step-index)) ≡ l.fn.place + table_count (selects_of (plain_query l.query));
  placed : are_in_place l.fn.place (references_of (resolved.plain_query l.left.query)) ≡ true;
  counted : l.fn.place + length (references_of (resolved.plain_query l.left.query)) ≡ l.place;
  kinds : l.left.kinds.items ≡ side_kinds l.catalog.tables (first_select (plain_query l.query));
  faults : l.faults ≡ either l.initial.faults (faults_among (step_faults l.catalog.tables (first_select (plain_query l.query))) (take l.step-index l.step-items));
}
