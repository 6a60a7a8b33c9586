use Rattle.std.proofs.Common.{take}
use Rattle.history_model.specs.OrdinaryQuery.{meets_all}
use Rattle.sequenced_ops.proofs.Selections.{SelectedSoFar}
use Rattle.sequenced_ops.proofs.selection.select_meeting.Given as goal

abbrev pub invariant-loop-row : goal.invariant-loop-row
invariant-loop-row l = SelectedSoFar (meets_all l.conjuncts) l.columns l.selected.items (take l.row-index l.rows)
