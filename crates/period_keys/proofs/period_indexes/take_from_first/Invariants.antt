use Rattle.std.proofs.Common.{◌≡◌, ◌≤◌, ◌++◌, List, length, map}
use Rattle.period_core.specs.declared.row.PeriodRow.{PeriodRow}
use Rattle.period_keys.specs.PeriodIndexes.{PartlyIndex, positions_by}
use Rattle.period_keys.proofs.period_indexes.take_from_first.Given as goal

abbrev pub invariant-loop-left : goal.invariant-loop-left
invariant-loop-left l = record {
  inside : l.left ≤ length l.indexes;
  same : map positions_by l.indexes ≡ map positions_by l.fn.indexes;
  partly : (rest : List PeriodRow) → PartlyIndex (l.rows ++ rest) rest l.fn.indexes l.count → PartlyIndex (l.rows ++ rest) rest l.indexes l.left;
}

abbrev pub decreases-loop-left : goal.decreases-loop-left
decreases-loop-left l = l.left
