use Rattle.std.proofs.Common.{◌≡◌, ◌-◌, ◌≤◌, drop, length}
use Rattle.sql_statements.specs.Lexis.{quoted_size, longer}
use Rattle.sql_statements.proofs.scan.quoted_size.Given as goal

abbrev pub invariant-loop-i : goal.invariant-loop-i
invariant-loop-i l = record {
  within : l.i ≤ length l.bytes;
  rest : quoted_size l.bytes ≡ longer l.i (quoted_size (drop l.i l.bytes));
}

abbrev pub decreases-loop-i : goal.decreases-loop-i
decreases-loop-i l = length l.bytes - l.i
