use Rattle.std.proofs.Common.{◌⊎◌, ◌<◌, ◌≤◌, ℕ, get_or, length, take}
use Rattle.portion_dml.specs.Plans.{Plans}
use Rattle.period_keys.proofs.plans.plan_at.Given as goal

abbrev pub invariant-loop-place : goal.invariant-loop-place
invariant-loop-place l = record {
  plans : Plans l.action (take l.next l.rows) l.plan;
  bound : l.next ≤ length l.rows;
  passed : (k : ℕ) (d : ℕ) → k < l.place-index → (get_or l.places k d < l.next) ⊎ (length l.rows ≤ get_or l.places k d);
}
