use Rattle.std.proofs.Common.{◌≡◌, map, take}
use Rattle.version_tables.specs.Runs.{key_shown, recorded}
use Rattle.version_tables.proofs.runs.are_keys.Given as goal

abbrev pub invariant-loop-at : goal.invariant-loop-at
invariant-loop-at l = take l.at l.rows ≡ map key_shown (map (recorded l.table) (take l.at l.keys))
