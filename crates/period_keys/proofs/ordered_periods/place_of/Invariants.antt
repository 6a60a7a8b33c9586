use Rattle.std.proofs.Common.{◌≡◌, ◌<◌, ◌≤◌, ℕ, length, get_or}
use Rattle.period_core.specs.declared.period.Period.{Period}
use Rattle.period_keys.proofs.ordered_periods.place_of.Given as goal

abbrev pub invariant-loop-place : goal.invariant-loop-place
invariant-loop-place l = record {
  inside : l.place ≤ length l.periods;
  passed : (k : ℕ) (d : Period) → l.place ≤ k → k < length l.periods → get_or l.periods k d ≡ l.period → ⊥;
}

abbrev pub decreases-loop-place : goal.decreases-loop-place
decreases-loop-place l = l.place
