use Rattle.std.proofs.Common.{◌≡◌, map, take}
use Rattle.period_keys.specs.Versions.{period_of}
use Rattle.period_keys.proofs.periods_of_key.collect_rows.Given as goal

abbrev pub invariant-loop-row : goal.invariant-loop-row
invariant-loop-row l = l.periods.items ≡ map period_of (take l.row-index l.rows)
