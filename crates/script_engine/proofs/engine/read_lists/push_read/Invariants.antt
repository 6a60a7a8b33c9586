use Rattle.std.proofs.Common.{◌≡◌, ◌++◌, List, Some, map}
use Rattle.period_core.specs.declared.row.PeriodRow.{PeriodRow}
use Rattle.script_engine.proofs.engine.read_lists.push_read.Given as goal

abbrev pub invariant-loop-list : goal.invariant-loop-list
invariant-loop-list l =
    (added : List (List PeriodRow)) × (l.fn.read.items ≡ map Some added ++ l.list-iterator.rest.items) × (l.lists.items ≡ l.fn.lists.items ++ added)
