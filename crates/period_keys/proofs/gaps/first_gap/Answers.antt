use Rattle.period_keys.specs.LookUps.{periods_of}
use Rattle.period_keys.proofs.GapSteps.{first_of}
use Rattle.period_keys.proofs.gaps.first_gap.Goals as goal

pub returns : goal.returns
returns c = first_of (periods_of c.args.periods.now) c.args.period.now c.held_until-day.result c.found_at.result c.held_until-day.ensures.held c.held_until-day.ensures.from
    c.held_until-day.ensures.gap c.found_at.ensures.day c.found_at.ensures.before
