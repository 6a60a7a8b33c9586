use Rattle.std.proofs.Common.{sym, arith}
use Rattle.std.proofs.lemmas.Bool.Decides.{nat_tests}
use Rattle.period_core.proofs.TextReadings.{moment_by_steps, moment_has_number}
use Rattle.period_core.proofs.text_reading.moment_of_bytes.Goals as goal

pub returns : goal.returns
returns c =
    moment_by_steps c.args.text.now (c.in_ok-year.year, c.in_ok-year.month, c.in_ok-year.day) (c.in_ok-hour.hour, c.in_ok-hour.minute, c.in_ok-hour.second) c.in_ok-microsecond.microsecond c.from_parts.result
    (grind (arith, nat_tests, c.if-text-lt19.false)) (grind (arith, nat_tests, c.if-text-ne32.false)) (sym c.in_ok-year.ensures) (sym c.in_ok-hour.ensures) (sym c.in_ok-microsecond.ensures)
    (moment_has_number c.from_parts.result c.in_ok-year.year c.in_ok-year.month c.in_ok-year.day c.in_ok-hour.hour c.in_ok-hour.minute c.in_ok-hour.second c.in_ok-microsecond.microsecond c.from_parts.ensures.there c.from_parts.ensures.value)
