use Rattle.period_core.proofs.PeriodEnds.{after_by, after_to, before_by, before_to, day_in, days_from, days_to}
use Rattle.period_core.proofs.period.Period.minus.Goals as goal

pub returns-clause-before : goal.returns-clause-before
returns-clause-before c day =
    let x = c.args.self in
    let y = c.args.other in
    let whole = c.from_to-first.ensures day in
    let ends = c.earlier-end.ensures day in (
      λ h. let k = whole.0 h in let l = ends.0 k.1 in (day_in x day k.0 l.0, before_to y day l.1),
      λ h. whole.1 (days_from x day h.0, ends.1 (days_to x day h.0, before_by y day h.1)),
    )

pub returns-clause-after : goal.returns-clause-after
returns-clause-after c day =
    let x = c.args.self in
    let y = c.args.other in
    let whole = c.from_to-last.ensures day in
    let starts = c.later-start.ensures day in (
      λ h. let k = whole.0 h in let l = starts.0 k.0 in (day_in x day l.0 k.1, after_to y day l.1),
      λ h. whole.1 (starts.1 (days_from x day h.0, after_by y day h.1), days_to x day h.0),
    )
