use Rattle.std.proofs.Common.{◌≡◌, ℕ, ℤ, List}
use Rattle.period_core.specs.Calendar.{day_text}
use Rattle.statement_reports.specs.Report.{printed_day}
use Rattle.statement_reports.proofs.record.Record.push_day.Goals as goal

printed : (text : List ℕ) (day : ℤ) → text ≡ day_text day → text ≡ printed_day day
unfolding printed_day
printed text day e = e

pub returns-clause-ok : goal.returns-clause-ok
returns-clause-ok c =
    rw (← printed c.write_text.new.text c.args.day c.write_text.ensures.text) c.push.ensures.ok
