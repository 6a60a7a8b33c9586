use Rattle.std.proofs.Common.{◌≡◌, ◌++◌}
use Rattle.std.specs.List.Sorted.{IsPermutation}
use Rattle.period_keys.proofs.current_rows.CurrentRows.add_list.Given as goal

abbrev pub invariant-loop-row : goal.invariant-loop-row
invariant-loop-row l = (l.self.positions ≡ l.fn.self.positions) × IsPermutation (l.row-iterator.rest.items ++ l.self.rows) (l.fn.rows.items ++ l.fn.self.rows)
