-- The tree that undoing gives.
use Rattle.std.specs.Prelude.{◌≡◌, List, slice_set}
use Rattle.sqlite_value.specs.Order.{Row}
use Rattle.ordered_rows.specs.declared.undo.InverseEdit.{InverseEdit}
use Rattle.ordered_rows.specs.declared.undo.InverseEdit.TheVariants.{Nothing, Out, In, Over}
use Rattle.ordered_rows.specs.declared.undo.Undo.{Undo}
use Rattle.ordered_rows.specs.Edits.{inserted, removed}

-- the rows after an edit that takes another back
abbrev pub edited : InverseEdit → List Row → List Row
edited Nothing rows = rows
edited (Out at) rows = removed at rows
edited (In at fork) rows = inserted at fork.value.row rows
edited (Over at row) rows = slice_set rows at row

-- the rows after the undoing
abbrev pub undone : Undo → List Row → List Row
undone u = edited u.inverse

-- the edit was made, and undoing it gives the old rows
abbrev pub Undoes : List Row → List Row → (List Row → List Row) → Undo → Type 0
Undoes old new edit undo = (new ≡ edit old) × (undone undo new ≡ old)
