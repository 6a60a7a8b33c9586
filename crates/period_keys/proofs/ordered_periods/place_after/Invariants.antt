use Rattle.std.proofs.Common.{◌≤ℤ◌, ◌<ℤ◌, ◌<◌, ◌≤◌, ◌-◌, ℕ, length, get_or}
use Rattle.period_core.specs.declared.period.Period.{Period}
use Rattle.period_keys.proofs.ordered_periods.place_after.Given as goal

abbrev pub invariant-loop-low : goal.invariant-loop-low
invariant-loop-low l = record {
  upto : l.low ≤ l.high;
  inside : l.high ≤ length l.periods;
  before : (k : ℕ) (d : Period) → k < l.low → (get_or l.periods k d).start ≤ℤ l.day;
  after : (k : ℕ) (d : Period) → l.high ≤ k → k < length l.periods → l.day <ℤ (get_or l.periods k d).start;
}

abbrev pub decreases-loop-low : goal.decreases-loop-low
decreases-loop-low l = l.high - l.low
