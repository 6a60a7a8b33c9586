use Rattle.std.proofs.Common.{◌≡◌, ◌<◌, ◌≤◌, ◌-◌, ℕ, length}
use Rattle.period_core.specs.Runs.{row_values}
use Rattle.period_core.proofs.runs.run_end.Given as goal

abbrev pub invariant-loop-end : goal.invariant-loop-end
invariant-loop-end l = record {
  behind : l.at < l.end;
  within : l.end ≤ length l.rows;
  same : (place : ℕ) → l.at ≤ place → place < l.end → row_values l.rows place ≡ row_values l.rows l.at;
}

abbrev pub decreases-loop-end : goal.decreases-loop-end
decreases-loop-end l = length l.rows - l.end
