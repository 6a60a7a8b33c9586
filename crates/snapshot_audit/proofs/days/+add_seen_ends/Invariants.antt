use Rattle.std.proofs.Common.{map, take}
use Rattle.catalog_core.specs.query.Queries.{rows_for}
use Rattle.snapshot_audit.proofs.Changes.{HasEndsAmong}
use Rattle.snapshot_audit.proofs.days.+add_seen_ends.Given as goal

abbrev pub invariant-loop-reference : goal.invariant-loop-reference
invariant-loop-reference l = HasEndsAmong l.fn.days.items (map (rows_for l.tables) (take l.reference-index l.reference-items)) l.days.items
