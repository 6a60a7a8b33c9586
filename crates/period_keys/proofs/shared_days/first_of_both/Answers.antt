use Rattle.period_core.proofs.PeriodEnds.{day_in, days_from, days_to, first_in}
use Rattle.period_keys.proofs.shared_days.first_of_both.Goals as goal

-- the days that both periods share are the days of their overlap
pub returns : goal.returns
returns c =
    let one = c.args.one.now in
    let other = c.args.other.now in
    let both = c.in_ok-both.both in
    let first = (c.in_ok-both.ensures both.start).0 (first_in both) in
    record {
      faulty = ((days_from one both.start first.0, days_to one both.start first.0), (days_from other both.start first.1, days_to other both.start first.1));
      least = λ day holds. days_from both day ((c.in_ok-both.ensures day).1 (day_in one day holds.0.0 holds.0.1, day_in other day holds.1.0 holds.1.1));
    }
