use Rattle.sql_front.proofs.PlainDays.{plain_named}
use Rattle.sql_front.proofs.date_tokens.is_plain_day.Goals as goal

pub returns : goal.returns
returns c = λ early.
    plain_named c.args.token.now c.requires c.if-token-ne45.false c.if-token-ne45-2.false
    (c.is_late_year.ensures c.if-not-is_late_year.false) (c.is_month.ensures c.if-not-is_month.false) (c.is_early.ensures early)
