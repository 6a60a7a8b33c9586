use Rattle.period_core.proofs.PeriodEnds.{day_in, days_from, days_to}
use Rattle.period_core.proofs.period.Period.intersect.Goals as goal

pub returns : goal.returns
returns c day =
    let x = c.args.self in
    let y = c.args.other in
    let whole = c.from_to.ensures day in
    let starts = c.later.ensures day in
    let ends = c.earlier.ensures day in (
      λ h. let k = whole.0 h in let l = starts.0 k.0 in let m = ends.0 k.1 in (day_in x day l.0 m.0, day_in y day l.1 m.1),
      λ h. whole.1 (starts.1 (days_from x day h.0, days_from y day h.1), ends.1 (days_to x day h.0, days_to y day h.1)),
    )
