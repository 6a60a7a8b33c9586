use Rattle.std.proofs.Common.{take}
use Rattle.catalog_core.specs.Conditions.{meets}
use Rattle.sequenced_ops.proofs.Selections.{SelectedSoFar}
use Rattle.sequenced_ops.proofs.selection.select.Given as goal

abbrev pub invariant-loop-row : goal.invariant-loop-row
invariant-loop-row l = SelectedSoFar (meets l.condition) l.columns l.selected.items (take l.row-index l.rows)
