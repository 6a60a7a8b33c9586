use Rattle.std.proofs.Common.{◌++◌}
use Rattle.std.specs.List.Sorted.{IsPermutation}
use Rattle.period_keys.proofs.current_rows.every_other.Given as goal

abbrev pub invariant-loop-row : goal.invariant-loop-row
invariant-loop-row l = IsPermutation ((l.first.items ++ l.second.items) ++ l.row-iterator.rest.items) l.fn.rows.items
