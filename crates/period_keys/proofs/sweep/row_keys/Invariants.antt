use Rattle.std.proofs.Common.{◌≡◌, ℕ, List, map, take}
use Rattle.period_keys.specs.Keys.{key_values}
use Rattle.period_keys.specs.Repeats.{key_row}
use Rattle.period_keys.proofs.sweep.row_keys.Given as goal

abbrev pub invariant-loop-i : goal.invariant-loop-i
invariant-loop-i l = (positions : List ℕ) → l.keys ≡ map (key_values positions) l.rows → l.keyed.items ≡ map (key_row positions) (take l.i l.rows)
