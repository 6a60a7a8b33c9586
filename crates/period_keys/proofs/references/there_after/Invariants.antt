use Rattle.std.proofs.Common.{◌++◌, List, drop, take}
use Rattle.std.specs.List.Sorted.{IsPermutation}
use Rattle.period_core.specs.declared.period.Period.{Period}
use Rattle.period_keys.specs.LookUps.{periods_of}
use Rattle.period_keys.proofs.references.there_after.Given as goal

abbrev pub invariant-loop-going : goal.invariant-loop-going
invariant-loop-going l = (stay : List Period) → IsPermutation (periods_of l.periods) (l.gone ++ stay) → IsPermutation l.there.items.items (drop l.going-index l.gone ++ stay)

abbrev pub invariant-loop-coming : goal.invariant-loop-coming
invariant-loop-coming l = (stay : List Period) → IsPermutation (periods_of l.periods) (l.gone ++ stay) → IsPermutation l.there.items.items (stay ++ take l.coming-index l.new)
