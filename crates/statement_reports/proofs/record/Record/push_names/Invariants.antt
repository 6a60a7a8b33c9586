use Rattle.std.proofs.Common.{◌≡◌, ◌++◌, map, take}
use Rattle.statement_reports.specs.declared.outcome.VersionColumn.{VersionColumn}
use Rattle.statement_reports.proofs.record.Record.push_names.Given as goal

abbrev pub invariant-loop-column : goal.invariant-loop-column
invariant-loop-column l = l.self ≡ l.fn.self ++ map (λ (column : VersionColumn). column.name) (take l.column-index l.columns)
