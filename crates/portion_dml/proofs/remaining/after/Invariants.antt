use Rattle.std.proofs.Common.{◌≡◌, ◌++◌, List, map, take}
use Rattle.std.specs.List.Sorted.{IsPermutation}
use Rattle.std.specs.Borrow.{Bor}
use Rattle.period_core.specs.declared.version.VersionRow.{VersionRow}
use Rattle.portion_dml.proofs.Ending.{Passed}
use Rattle.portion_dml.proofs.remaining.after.Given as goal

abbrev pub invariant-loop-version : goal.invariant-loop-version
invariant-loop-version l = (stay : List VersionRow) → IsPermutation l.current (l.plan.ended ++ stay)
    → Passed l.current l.version-index (map (λ (r : Bor VersionRow). r.now) l.left.items) l.rows.items stay

abbrev pub invariant-loop-row : goal.invariant-loop-row
invariant-loop-row l = l.rows.items ≡ l.initial.rows.items ++ take l.row-index l.row-items
