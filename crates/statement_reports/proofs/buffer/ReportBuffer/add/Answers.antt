use Rattle.std.proofs.Common.{◌≡◌, ◌≤◌, ◌≢◌, ◌∙◌, ap, length}
use Rattle.csv.specs.declared.writer.QuoteStyle.TheVariants as style
use Rattle.csv.specs.Records.{fields_of}
use Rattle.csv.specs.Writing.{row_text}
use Rattle.statement_reports.specs.Report.{record_text}
use Rattle.statement_reports.proofs.CsvFacts.{report_writer, row-same}
use Rattle.statement_reports.proofs.buffer.ReportBuffer.add.Goals as goal

pub returns-in-Ok-clause-ok : goal.returns-in-Ok-clause-ok
returns-in-Ok-clause-ok c =
    let (setup, fields, fresh) = c.self.invariant in
    let plain : c.self.inside.texts.cfg.style ≢ style.NonNumeric = rw setup (λ e. cc e) in
    let room : 2 ≤ length (fields_of c.fields.result.now) = rw c.fields.ensures c.requires in
    let bytes = c.in-Ok.ensures.bytes fields fresh plain in
    let wrote = rw setup at bytes in
    let text : row_text report_writer (fields_of c.fields.result.now) ≡ record_text c.args.line.now = row-same _ room ∙ ap record_text c.fields.ensures in
    rw (text, c.self.view_is) at wrote
