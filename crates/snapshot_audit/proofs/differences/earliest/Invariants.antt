use Rattle.std.proofs.Common.{take}
use Rattle.catalog_core.specs.query.Queries.{plain_query}
use Rattle.snapshot_audit.specs.Differences.{ChangesOn, Checks}
use Rattle.snapshot_audit.proofs.differences.earliest.Given as goal

abbrev pub invariant-loop-row : goal.invariant-loop-row
invariant-loop-row l = Checks (plain_query l.query) l.lists l.answer (ChangesOn (take l.row-index l.rows)) l.fn.least l.first
