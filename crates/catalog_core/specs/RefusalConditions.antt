-- A statement's conditions as one list: each refusal that it may get, and whether its condition
-- holds.
use Rattle.std.specs.Prelude.{◌≡◌, ◌⊎◌, ◌∷◌, Bool, List, [], Option, None, Some, IsTrue, cond}
use Rattle.period_core.specs.declared.refusal.Refusal.{Refusal}

-- a refusal, and whether its condition holds
abbrev pub RefusalCondition : Type 0
RefusalCondition = Refusal × Bool

-- the refusal is among those judged, and its condition holds
abbrev pub Holds : List RefusalCondition → Refusal → Type 0
Holds [] refusal = ⊥
Holds ((judged, holds) ∷ more) refusal = ((judged ≡ refusal) × IsTrue holds) ⊎ Holds more refusal

-- the first whose condition holds: the least, if the numbers ascend
abbrev pub first_holding : List RefusalCondition → Option Refusal
first_holding [] = None
first_holding ((judged, holds) ∷ more) = cond holds (Some judged) (first_holding more)
