use Rattle.sequenced_ops.proofs.Selections.{SelectionLeft}
use Rattle.sequenced_ops.proofs.filters.filter.Given as goal

abbrev pub invariant-loop-row : goal.invariant-loop-row
invariant-loop-row l = SelectionLeft l.condition l.fn.rows.items l.kept.items l.row-iterator.rest.items
