use Rattle.std.proofs.Common.{◌≡◌, take}
use Rattle.coalesce_core.proofs.sorting.rows_of.Given as goal

abbrev pub invariant-loop-number : goal.invariant-loop-number
invariant-loop-number l = l.rows.items ≡ take l.number-index l.fn.numbers
