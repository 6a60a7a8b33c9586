use Rattle.std.proofs.Common.{◌≡◌, take}
use Rattle.coalesce_core.proofs.sorting.numbers_of.Given as goal

abbrev pub invariant-loop-row : goal.invariant-loop-row
invariant-loop-row l = l.numbers.items ≡ take l.row-index l.fn.rows
