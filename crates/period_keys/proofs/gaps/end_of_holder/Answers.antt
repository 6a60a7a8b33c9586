use Rattle.std.proofs.Common.{subst, sym}
use Rattle.period_keys.specs.declared.periods_of_key.PeriodsOfKey.{PeriodsOfKey}
use Rattle.period_keys.specs.Gaps.{IsEndOfHolder}
use Rattle.period_keys.specs.LookUps.{periods_of}
use Rattle.period_keys.proofs.gaps.end_of_holder.Goals as goal

pub returns-in-InRuns : goal.returns-in-InRuns
returns-in-InRuns c = subst (λ (periods : PeriodsOfKey). IsEndOfHolder (periods_of periods) c.args.day c.end_in_runs.result) (sym c.in-InRuns.is) c.end_in_runs.ensures

pub returns-in-OfGroup : goal.returns-in-OfGroup
returns-in-OfGroup c = subst (λ (periods : PeriodsOfKey). IsEndOfHolder (periods_of periods) c.args.day c.end_of_holder.result) (sym c.in-OfGroup.is) c.end_of_holder.ensures
