use Rattle.std.proofs.Common.{List, map, take}
use Rattle.std.specs.Borrow.{Bor}
use Rattle.std.specs.List.{Any}
use Rattle.period_core.specs.declared.value.Value.{Value}
use Rattle.period_keys.specs.Keys.{IsLeastOf}
use Rattle.period_keys.specs.Index.{periods_at}
use Rattle.period_keys.specs.LookUps.{periods_by}
use Rattle.period_keys.proofs.Covered.{LosesParent}
use Rattle.period_keys.proofs.references.least_lack_of_keys.Given as goal

abbrev pub invariant-loop-key : goal.invariant-loop-key
invariant-loop-key l = IsLeastOf (λ day. Any (λ key. LosesParent (periods_by l.parents) (periods_at l.children) key day) (map (λ (k : Bor (List Value)). k.now) (take l.key-index l.key-items))) l.found
