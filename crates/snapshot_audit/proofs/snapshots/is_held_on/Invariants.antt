use Rattle.std.proofs.Common.{◌≡◌, ℕ, ◌<◌, get_or}
use Rattle.period_core.specs.declared.row.PeriodRow.{PeriodRow}
use Rattle.temporal_model.proofs.Snapshots.{CoversDay}
use Rattle.snapshot_audit.proofs.snapshots.is_held_on.Given as goal

abbrev pub invariant-loop-row : goal.invariant-loop-row
invariant-loop-row l = (k : ℕ) (d : PeriodRow) → k < l.row-index → (get_or l.rows k d).values ≡ l.values → CoversDay (get_or l.rows k d) l.day → ⊥
