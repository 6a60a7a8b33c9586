use Rattle.std.proofs.Common.{map, take}
use Rattle.period_keys.specs.Gaps.{IsHeld}
use Rattle.period_keys.specs.Versions.{period_of}
use Rattle.period_keys.proofs.key_rows.end_among.Given as goal

abbrev pub invariant-loop-row : goal.invariant-loop-row
invariant-loop-row l = IsHeld (map period_of (take l.row-index l.rows)) l.day → ⊥
