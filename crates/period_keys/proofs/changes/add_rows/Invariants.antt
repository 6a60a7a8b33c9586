use Rattle.std.proofs.Common.{◌≡◌, ◌++◌, ℕ, List, map, take}
use Rattle.period_core.specs.declared.row.PeriodRow.{PeriodRow}
use Rattle.period_keys.specs.Keys.{key_values}
use Rattle.period_keys.specs.Index.{IsIndexOf}
use Rattle.period_keys.proofs.changes.add_rows.Given as goal

abbrev pub invariant-loop-i : goal.invariant-loop-i
invariant-loop-i l = (positions : List ℕ) (before : List PeriodRow) → l.keys ≡ map (key_values positions) l.rows
    → IsIndexOf positions before l.fn.index → IsIndexOf positions (before ++ take l.i l.rows) l.index
