use Rattle.std.proofs.Common.{◌≡◌, ◌≤ℤ◌, ◌<◌, ◌≤◌, length, ◌-◌, ℕ, get_or}
use Rattle.period_core.specs.declared.row.PeriodRow.{PeriodRow}
use Rattle.period_keys.specs.Keys.{IsLeastOf}
use Rattle.period_keys.specs.Repeats.{RepeatsBelow}
use Rattle.period_keys.proofs.sweep.first_repeat.Given as goal

abbrev pub invariant-loop-next : goal.invariant-loop-next
invariant-loop-next l = record {
  place : l.latest < l.next;
  bound : 1 < l.next → l.next ≤ length l.rows;
  last : (d : PeriodRow) → (get_or l.rows l.latest d).values ≡ (get_or l.rows (l.next - 1) d).values;
  reach : (k : ℕ) (d : PeriodRow) → k < l.next → (get_or l.rows k d).values ≡ (get_or l.rows l.latest d).values → (get_or l.rows k d).period.end ≤ℤ (get_or l.rows l.latest d).period.end;
  found : IsLeastOf (RepeatsBelow l.rows l.next) l.found;
}
