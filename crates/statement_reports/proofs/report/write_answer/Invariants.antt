use Rattle.std.proofs.Common.{◌≡◌, ◌∷◌, [], Ok, codes}
use Rattle.std.specs.Fmt.{decimal}
use Rattle.std.specs.Io.KnownBytes.{append_known}
use Rattle.statement_reports.specs.Report.{text_of}
use Rattle.statement_reports.specs.declared.outcome.Outcome.TheVariants as outcome
use Rattle.statement_reports.proofs.AppendFacts.{IsLeft, rows_text}
use Rattle.statement_reports.proofs.report.write_answer.Given as goal

-- the rows written, and those to come; the record begins as a row's
abbrev pub invariant-loop-row : goal.invariant-loop-row
invariant-loop-row g l =
    (IsLeft (append_known (g.W.Write.contents l.fn.out) l.fn.buffer) (append_known (g.W.Write.contents l.out) l.buffer)
    (rows_text l.number l.row-iterator.a.rest.now l.row-iterator.b.rest.now)
    (text_of l.number (Ok (outcome.Answer l.answer))))
    × (l.line ≡ codes "row" ∷ decimal l.number ∷ [])
