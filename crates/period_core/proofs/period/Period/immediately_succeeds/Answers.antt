use Rattle.std.proofs.Common.{◌≡◌, rules, sym}
use Rattle.period_core.proofs.PeriodEnds.{meet_by, meet_to}
use Rattle.period_core.proofs.period.Period.immediately_succeeds.Goals as goal

pub returns-clause-days : goal.returns-clause-days
returns-clause-days c =
    let h = c.eq.ensures in
    let x = c.args.self in
    let y = c.args.other in
    (λ k. let l : x.start ≡ y.end = search rules in meet_to y x (sym l), λ k. let l : x.start ≡ y.end = sym (meet_by y x k) in search rules)
