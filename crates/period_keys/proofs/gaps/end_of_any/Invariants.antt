use Rattle.std.proofs.Common.{take}
use Rattle.period_keys.specs.Gaps.{IsHeld}
use Rattle.period_keys.proofs.gaps.end_of_any.Given as goal

abbrev pub invariant-loop-other : goal.invariant-loop-other
invariant-loop-other l = IsHeld (take l.other-index l.periods) l.day → ⊥
