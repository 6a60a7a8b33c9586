use Rattle.std.proofs.Common.{rules}
use Rattle.period_core.proofs.PeriodEnds.{meet_by, meet_to}
use Rattle.period_core.proofs.period.Period.immediately_precedes.Goals as goal

pub returns-clause-days : goal.returns-clause-days
returns-clause-days c =
    let h = c.eq.ensures in
    let x = c.args.self in
    let y = c.args.other in
    (λ k. meet_to x y (search rules), λ k. let l = meet_by x y k in search rules)
