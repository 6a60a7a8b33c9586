use Rattle.std.proofs.Common.{take}
use Rattle.std.specs.Io.KnownBytes.{Appends, append_known}
use Rattle.statement_reports.specs.CheckReport.{refusals_from}
use Rattle.statement_reports.proofs.check.write_check.Given as goal

abbrev pub invariant-loop-i : goal.invariant-loop-i
invariant-loop-i g l = Appends (g.W.Write.contents l.fn.out) (append_known (g.W.Write.contents l.out) l.buffer) (refusals_from 1 (take l.i l.results))
