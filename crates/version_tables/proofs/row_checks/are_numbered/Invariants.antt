use Rattle.std.proofs.Common.{◌≡◌, ℕ, ◌<◌, [], true}
use Rattle.std.specs.Prelude.{slice_index_or}
use Rattle.sqlite.specs.View.{is_int}
use Rattle.sqlite.specs.Tree.{rowid}
use Rattle.version_tables.proofs.row_checks.are_numbered.Given as goal

abbrev pub invariant-loop-row : goal.invariant-loop-row
invariant-loop-row l = (k : ℕ) → k < l.row-index → is_int (rowid (slice_index_or l.rows k [])) ≡ true
