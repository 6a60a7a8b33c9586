use Rattle.std.specs.Prelude.{◌≡◌, take}
use Rattle.statement_resolution.specs.query.Faults.{matches_among}
use Rattle.statement_resolution.specs.query.Matched.{matched}
use Rattle.statement_resolution.proofs.query.seen_column.look_up.Given as goal

abbrev pub invariant-loop-seen : goal.invariant-loop-seen
invariant-loop-seen l = l.found ≡ matched (matches_among (take l.seen-index l.columns) l.reference)
