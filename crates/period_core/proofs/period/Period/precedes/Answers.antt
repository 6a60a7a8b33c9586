use Rattle.std.proofs.Common.{rules}
use Rattle.period_core.proofs.PeriodEnds.{precede_by, precede_to}
use Rattle.period_core.proofs.period.Period.precedes.Goals as goal

pub returns-clause-days : goal.returns-clause-days
returns-clause-days c =
    let h = c.le.ensures in
    let x = c.args.self in
    let y = c.args.other in
    (λ k. precede_to x y (search rules), λ k. let l = precede_by x y k in search rules)
