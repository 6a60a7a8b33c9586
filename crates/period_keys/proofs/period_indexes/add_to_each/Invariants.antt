use Rattle.std.proofs.Common.{◌≡◌, ◌++◌, List, map}
use Rattle.period_core.specs.declared.row.PeriodRow.{PeriodRow}
use Rattle.period_keys.specs.PeriodIndexes.{EachIndexes, PartlyIndex, positions_by}
use Rattle.period_keys.proofs.period_indexes.add_to_each.Given as goal

abbrev pub invariant-loop-i : goal.invariant-loop-i
invariant-loop-i l = record {
  same : map positions_by l.indexes ≡ map positions_by l.fn.indexes;
  partly : (before : List PeriodRow) → EachIndexes before l.fn.indexes → PartlyIndex (before ++ l.rows) before l.indexes l.i;
}
