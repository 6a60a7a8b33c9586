-- Worked rows: a store with one table of two rows, and what its undo log leads back to.
use Rattle.std.proofs.Common.{◌≡◌, [], ◌∷◌, arith, pos, refl}
use Rattle.sqlite_value.specs.declared.value.Value.TheVariants.{Int}
use Rattle.sqlite_value.specs.Order.{Row}
use Rattle.sqlite_trees.specs.declared.store.Shape.TheVariants.{Table}
use Rattle.sqlite_trees.specs.Listing.{no_heading}
use Rattle.ordered_rows.specs.declared.undo.InverseEdit.TheVariants.{Out}
use Rattle.ordered_rows.specs.declared.undo.Undo.{Undo as RowsUndo}
use Rattle.memory_store.specs.declared.log_entry.LogEntry.TheVariants.{SlotAdded, Relisted, Savepoint, Rows, Version}
use Rattle.memory_store.specs.ContentStates.{ContentState, before, marked, state_snapshot}

abbrev two : Row
two = Int (pos 2) ∷ []

abbrev five : Row
five = Int (pos 5) ∷ []

-- the table has the number 0, and no tree the number 1
abbrev now : ContentState
now = record { headings = (Table, 0, []) ∷ no_heading ∷ []; rows = (two ∷ five ∷ []) ∷ [] ∷ []; version = 7 }

-- the row 5 is taken out
abbrev without_five : RowsUndo
without_five = record { inverse = Out 1; countable = omega arith }

row-out : before (Rows 0 without_five) now ≡ record now { rows = (two ∷ []) ∷ [] ∷ [] }
row-out = refl

number-back : before SlotAdded now ≡ record now { headings = (Table, 0, []) ∷ []; rows = (two ∷ five ∷ []) ∷ [] }
number-back = refl

-- the shape stays, and so do the rows
listed-back : before (Relisted 0 two 3) now ≡ record now { headings = (Table, 3, two) ∷ no_heading ∷ [] }
listed-back = refl

-- two savepoints: the older restores version 5, the newer the rows without 5
two-marks : marked (Version 3 ∷ Savepoint ∷ Version 5 ∷ Savepoint ∷ Rows 0 without_five ∷ []) now
    ≡ state_snapshot (record now { rows = (two ∷ []) ∷ [] ∷ []; version = 5 }) ∷ state_snapshot (record now { rows = (two ∷ []) ∷ [] ∷ [] }) ∷ []
two-marks = refl
