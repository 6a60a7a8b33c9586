use Rattle.std.proofs.Common.{◌≡◌, ◌+◌, ◌<◌, length, take, arith}
use Rattle.std.proofs.lemmas.List.{take_more, length-take, take_all}
use Rattle.csv.proofs.WriteFacts.{appends-more}
use Rattle.statement_reports.proofs.AppendFacts.{report-more}
use Rattle.statement_reports.proofs.BufferFacts.{kept-end, kept-start}
use Rattle.statement_reports.proofs.report.write_report.Goals as goal

pub loop-i-init : goal.loop-i-init
loop-i-init g c = rw c.new-buffer.ensures (kept-start _)

pub loop-i-preserved : goal.loop-i-preserved
loop-i-preserved g c =
    let within : c.loop-i.i < length c.args.results.now = omega arith in
    let count : 1 + length (take c.loop-i.i c.args.results.now) ≡ c.loop-i.i + 1 = simp length-take (omega arith) in
    rw (take_more c.args.results.now c.loop-i.i c.index-results-i.result within, ← c.index-results-i.is, report-more 1 (c.loop-i.i + 1) (take c.loop-i.i c.args.results.now) c.index-results-i.result count)
    (appends-more _ _ _ _ _ c.loop-i.invariant c.in_ok-write_result.ensures.ok)

pub returns-clause-ok : goal.returns-clause-ok
returns-clause-ok g c =
    let whole : take c.loop-i.i c.args.results.now ≡ c.args.results.now = take_all c.loop-i.i c.args.results.now (omega arith) in
    kept-end _ _ _ _ _ _ (rw whole at c.loop-i.invariant) c.finish.ensures.ok
