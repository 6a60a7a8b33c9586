use Rattle.std.proofs.Common.{◌++◌}
use Rattle.period_keys.specs.Keys.{IsUncovered}
use Rattle.period_keys.specs.Gaps.{LacksKeyOf}
use Rattle.period_keys.specs.LookUps.{periods_by}
use Rattle.period_keys.proofs.Covered.{uncovered_after}
use Rattle.period_keys.proofs.Leasts.{IsLeastOf-same}
use Rattle.period_keys.proofs.references.uncovered_by_children.Goals as goal

pub returns-clause-of_whole : goal.returns-clause-of_whole
returns-clause-of_whole c = λ keys above before ended stay is covered moved.
    IsLeastOf-same (LacksKeyOf c.args.own.now c.args.added.now (periods_by c.args.parents.now)) (IsUncovered c.args.own.now (stay ++ c.args.added.now) keys above)
    (uncovered_after c.args.own.now keys above before ended stay c.args.added.now (periods_by c.args.parents.now) is covered moved) c.in_ok-found.found c.in_ok-found.ensures
