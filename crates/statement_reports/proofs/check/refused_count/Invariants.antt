use Rattle.std.proofs.Common.{◌≡◌, ◌≤◌, take, count_by}
use Rattle.std.specs.Prelude.{is_err}
use Rattle.statement_reports.proofs.check.refused_count.Given as goal

abbrev pub invariant-loop-entry : goal.invariant-loop-entry
invariant-loop-entry l = record {
  counted : l.count ≡ count_by is_err (take l.entry-index l.results);
  bounded : l.count ≤ l.entry-index;
}
