use Rattle.std.proofs.Common.{◌≡◌, map, take}
use Rattle.period_keys.specs.Keys.{key_values}
use Rattle.period_keys.proofs.changes.keys_of.Given as goal

abbrev pub invariant-loop-row : goal.invariant-loop-row
invariant-loop-row l = l.keys.items ≡ map (key_values l.positions) (take l.row-index l.rows)
