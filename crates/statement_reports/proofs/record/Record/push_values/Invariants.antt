use Rattle.std.proofs.Common.{◌≡◌, ◌++◌, map, take}
use Rattle.statement_reports.specs.Report.{value_text}
use Rattle.statement_reports.proofs.record.Record.push_values.Given as goal

abbrev pub invariant-loop-value : goal.invariant-loop-value
invariant-loop-value l = l.self ≡ l.fn.self ++ map value_text (take l.value-index l.values)
