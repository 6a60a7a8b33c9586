use Rattle.std.proofs.Common.{◌≡◌, ◌+◌, ◌<◌, length, take, arith}
use Rattle.std.proofs.lemmas.List.{take_more, length-take, take_all}
use Rattle.csv.proofs.WriteFacts.{appends-more}
use Rattle.statement_reports.proofs.AuditedSteps.{entries-more}
use Rattle.statement_reports.proofs.BufferFacts.{kept-end, kept-start}
use Rattle.statement_reports.proofs.audited.write_audited.Goals as goal

pub loop-i-init : goal.loop-i-init
loop-i-init g c = rw c.new-buffer.ensures (kept-start _)

pub loop-i-preserved : goal.loop-i-preserved
loop-i-preserved g c =
    let within : c.loop-i.i < length c.args.entries.now = omega arith in
    let count : 1 + length (take c.loop-i.i c.args.entries.now) ≡ c.loop-i.i + 1 = simp length-take (omega arith) in
    rw (take_more c.args.entries.now c.loop-i.i c.index-entries-i.result within, ← c.index-entries-i.is, entries-more 1 (c.loop-i.i + 1) (take c.loop-i.i c.args.entries.now) c.index-entries-i.result count)
    (appends-more _ _ _ _ _ c.loop-i.invariant c.in_ok-write_entry.ensures.ok)

pub returns-clause-ok : goal.returns-clause-ok
returns-clause-ok g c =
    let whole : take c.loop-i.i c.args.entries.now ≡ c.args.entries.now = take_all c.loop-i.i c.args.entries.now (omega arith) in
    kept-end _ _ _ _ _ _ (rw whole at c.loop-i.invariant) c.finish.ensures.ok
