use Rattle.std.proofs.Common.{◌≤ℤ◌, ◌<ℤ◌, ℤ}
use Rattle.std.specs.Int.{int_gap}
use Rattle.period_keys.specs.Gaps.{IsHeld}
use Rattle.period_keys.specs.LookUps.{periods_of}
use Rattle.period_keys.proofs.gaps.held_until.Given as goal

abbrev pub invariant-loop-end : goal.invariant-loop-end
invariant-loop-end l = record {
  from : l.fn.start ≤ℤ l.day;
  held : (day : ℤ) → l.fn.start ≤ℤ day → day <ℤ l.day → IsHeld (periods_of l.periods) day;
}

abbrev pub decreases-loop-end : goal.decreases-loop-end
decreases-loop-end l = int_gap l.day l.end
