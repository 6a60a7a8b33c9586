use Rattle.std.proofs.Common.{◌≡◌, ◌≤◌, ◌++◌, List, length, map, vec_capacity, vec_len}
use Rattle.catalog_core.specs.declared.change.InsertedRow.{InsertedRow}
use Rattle.history_model.specs.Portions.{plain_given, plain_row}
use Rattle.portion_dml.proofs.plan.plan_given.Given as goal

-- the rows so far are added, and there is room for the rest
abbrev pub invariant-loop-row : goal.invariant-loop-row
invariant-loop-row l =
    (done : List InsertedRow) × (l.fn.given ≡ done ++ l.row-iterator.rest.items)
    × (map plain_row l.added.items ≡ map plain_given done)
    × (length l.fn.given ≤ vec_capacity l.added) × (vec_len l.added ≡ length done)
