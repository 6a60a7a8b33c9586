use Rattle.std.proofs.Common.{ℕ, ◌<◌, get_or}
use Rattle.period_core.specs.declared.row.PeriodRow.{PeriodRow}
use Rattle.temporal_model.specs.Answer.{SameBeginning}
use Rattle.snapshot_audit.proofs.witness_check.begins_in.Given as goal

abbrev pub invariant-loop-other : goal.invariant-loop-other
invariant-loop-other l = (k : ℕ) (d : PeriodRow) → k < l.other-index → SameBeginning (get_or l.rows k d) l.row → ⊥
