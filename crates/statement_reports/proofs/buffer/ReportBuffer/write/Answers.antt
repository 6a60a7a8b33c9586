use Rattle.statement_reports.proofs.BufferFacts.{kept-more}
use Rattle.statement_reports.proofs.buffer.ReportBuffer.write.Goals as goal

pub returns-clause-ok : goal.returns-clause-ok
returns-clause-ok g c = rw c.in_ok-add.ensures.ok (kept-more _ _ _)
