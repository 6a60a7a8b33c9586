use Rattle.std.proofs.Common.{sym, arith}
use Rattle.std.proofs.lemmas.Bool.Decides.{nat_tests}
use Rattle.period_core.proofs.TextReadings.{date_number, day_by_steps}
use Rattle.period_core.proofs.text_reading.day_of_bytes.Goals as goal

pub returns : goal.returns
returns c =
    day_by_steps c.args.text.now c.in_ok-year.year c.in_ok-year.month c.in_ok-year.day c.from_date.result
    (grind (arith, nat_tests, c.if-text-ne10.false)) (sym c.in_ok-year.ensures)
    (date_number c.from_date.result c.in_ok-year.year c.in_ok-year.month c.in_ok-year.day c.from_date.ensures.there c.from_date.ensures.value)
