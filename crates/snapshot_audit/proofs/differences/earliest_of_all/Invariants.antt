use Rattle.std.proofs.Common.{None, take}
use Rattle.catalog_core.specs.query.Queries.{plain_query}
use Rattle.snapshot_audit.specs.Differences.{ChangesOnAny, Checks}
use Rattle.snapshot_audit.proofs.differences.earliest_of_all.Given as goal

abbrev pub invariant-loop-list : goal.invariant-loop-list
invariant-loop-list l = Checks (plain_query l.query) l.lists l.answer (ChangesOnAny l.answer (take l.list-index l.lists)) None l.first
