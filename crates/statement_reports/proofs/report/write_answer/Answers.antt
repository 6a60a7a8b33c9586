use Rattle.std.proofs.Common.{rules}
use Rattle.std.proofs.lemmas.Slice.Zip.{either_empty_from_Zip}
use Rattle.statement_reports.proofs.AppendFacts.{rows-end, rows-start, rows-step}
use Rattle.statement_reports.proofs.report.write_answer.Goals as goal

pub loop-row-init : goal.loop-row-init
loop-row-init g c =
    let columns = rw (c.in_ok-fill_columns.ensures.ok, c.as_slice.ensures) at c.in_ok-write-2.ensures.ok in
    let left = rows-start c.args.number c.args.answer.now _ _ _ _ _ (search rules) (search rules) (rw c.in_ok-fill_head.ensures.ok at c.in_ok-write.ensures.ok) columns in
    (left, rw c.in_ok-start.ensures.ok at c.in_ok-push_number.ensures.ok)

pub loop-row-preserved : goal.loop-row-preserved
loop-row-preserved g c =
    let (left, begins) = c.loop-row.invariant in
    let row = rw begins at c.in_ok-push_row.ensures.ok in
    let written = rw row at c.in_ok-write-3.ensures.ok in
    (rows-step c.args.number _ _ _ _ _ _ _ _ _ _ c.in-Some.ensures.steps.0 c.in-Some.ensures.steps.1 left written, rw row at c.truncate.ensures)

pub returns-clause-ok : goal.returns-clause-ok
returns-clause-ok g c =
    rows-end c.args.number _ _ _ _ _ (either_empty_from_Zip c.loop-row.row-iterator c.next.new.self c.next.result c.in-None.is c.next.ensures.steps) c.loop-row.invariant.0
