use Rattle.std.proofs.Common.{◌<ℤ◌, rules}
use Rattle.period_core.proofs.PeriodEnds.{overlap_by, overlap_left}
use Rattle.period_core.proofs.period.Period.overlaps.Goals as goal

pub returns-then-lt-clause-days : goal.returns-then-lt-clause-days
returns-then-lt-clause-days c =
    let x = c.args.self in
    let y = c.args.other in
    (λ k. overlap_by x y (search rules) (search rules), λ k. let right : y.start <ℤ x.end = overlap_left y x (k.0, (k.1.1, k.1.0)) in search rules)
