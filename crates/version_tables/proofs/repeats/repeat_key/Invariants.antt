use Rattle.std.proofs.Common.{ℕ, ◌+◌, ◌<◌, []}
use Rattle.std.specs.Prelude.{slice_index_or}
use Rattle.version_tables.specs.Rows.{AreOneKey}
use Rattle.version_tables.proofs.repeats.repeat_key.Given as goal

abbrev pub invariant-loop-at : goal.invariant-loop-at
invariant-loop-at l = (k : ℕ) → k + 1 < l.at → ¬ AreOneKey (slice_index_or l.rows k []) (slice_index_or l.rows (k + 1) [])
