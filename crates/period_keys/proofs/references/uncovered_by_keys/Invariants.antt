use Rattle.std.proofs.Common.{◌++◌, ℕ, List, map, take}
use Rattle.std.specs.Borrow.{Bor}
use Rattle.std.specs.List.{Any}
use Rattle.std.specs.List.Sorted.{IsPermutation}
use Rattle.period_core.specs.declared.row.PeriodRow.{PeriodRow}
use Rattle.period_core.specs.declared.value.Value.{Value}
use Rattle.period_keys.specs.Keys.{IsLeastOf}
use Rattle.period_keys.specs.Index.{AreAtKeys, IsIndexOf, periods_of_key}
use Rattle.period_keys.specs.LookUps.{periods_by}
use Rattle.period_keys.proofs.Covered.{LosesParent}
use Rattle.period_keys.proofs.references.uncovered_by_keys.Given as goal

abbrev pub invariant-loop-key : goal.invariant-loop-key
invariant-loop-key l =
    (keys : List ℕ) (before ended stay added : List PeriodRow) → AreAtKeys keys before (periods_by l.parents) → IsIndexOf keys ended l.gone → IsIndexOf keys added l.new → IsPermutation before (ended ++ stay)
    → IsLeastOf (λ day. Any (λ key. LosesParent (periods_of_key keys (stay ++ added)) (periods_by l.children) key day) (map (λ (k : Bor (List Value)). k.now) (take l.key-index l.key-items))) l.found
