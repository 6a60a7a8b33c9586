use Rattle.std.proofs.Common.{◌≡◌, ◌+◌, drop, length}
use Rattle.std.specs.Io.BufRead.{take_through}
use Rattle.sql_statements.proofs.scan.comment_size.Given as goal

abbrev pub invariant-loop-i : goal.invariant-loop-i
invariant-loop-i l = length (take_through 10 l.bytes) ≡ l.i + length (take_through 10 (drop l.i l.bytes))
