use Rattle.std.proofs.Common.{◌≡◌, ◌++◌, map}
use Rattle.period_keys.specs.Current.{rows_by_key}
use Rattle.period_keys.proofs.table_list.tables_of.Given as goal

abbrev pub invariant-loop-table : goal.invariant-loop-table
invariant-loop-table l = map rows_by_key l.tables.items ++ l.table-iterator.rest.items ≡ l.fn.rows.items
