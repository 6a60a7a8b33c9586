use Rattle.std.proofs.Common.{take}
use Rattle.period_keys.specs.Keys.{IsLeastOf}
use Rattle.period_keys.specs.Gaps.{LacksKeyOf}
use Rattle.period_keys.specs.LookUps.{periods_by}
use Rattle.period_keys.proofs.references.least_lack_one_by_one.Given as goal

abbrev pub invariant-loop-child : goal.invariant-loop-child
invariant-loop-child l = IsLeastOf (LacksKeyOf l.own (take l.child-index l.children) (periods_by l.parents)) l.found
