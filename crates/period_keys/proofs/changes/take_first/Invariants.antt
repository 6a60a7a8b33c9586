use Rattle.std.proofs.Common.{◌≡◌, ◌++◌, ℕ, List, map, take, drop}
use Rattle.period_core.specs.declared.row.PeriodRow.{PeriodRow}
use Rattle.period_keys.specs.Keys.{key_values}
use Rattle.period_keys.specs.Index.{IsIndexOf}
use Rattle.period_keys.proofs.changes.take_first.Given as goal

abbrev pub invariant-loop-i : goal.invariant-loop-i
invariant-loop-i l = (positions : List ℕ) (rest : List PeriodRow) → l.keys ≡ map (key_values positions) l.rows
    → IsIndexOf positions (take l.count l.rows ++ rest) l.fn.index → IsIndexOf positions (drop l.i (take l.count l.rows) ++ rest) l.index
