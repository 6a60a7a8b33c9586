use Rattle.std.proofs.Common.{◌≡◌, map}
use Rattle.sql_front.specs.Builders.{table_of}
use Rattle.sql_front.specs.PlainElements.{plain_element}
use Rattle.sql_front.proofs.tables.table_with.Given as goal

abbrev pub invariant-loop-element : goal.invariant-loop-element
invariant-loop-element l = l.table ≡ table_of (l.fn.name, (map plain_element l.yielded, tt))
