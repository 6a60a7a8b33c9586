use Rattle.std.specs.Prelude.{◌≡◌, take, bytes_eq, count_by}
use Rattle.sql_statements.specs.declared.statement.Assignment.{Assignment}
use Rattle.statement_resolution.proofs.change.portion_faults.is_set_again.Given as goal

abbrev pub invariant-loop-other : goal.invariant-loop-other
invariant-loop-other l = l.count ≡ count_by (λ (other : Assignment). bytes_eq l.set.column other.column) (take l.other-index l.assignments)
