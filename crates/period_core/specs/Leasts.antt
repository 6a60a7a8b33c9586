-- The refusal that is answered, of several: the one with the least number whose condition holds.
use Rattle.std.specs.Prelude.{◌≡◌, ◌≤◌, ◌⊎◌}
use Rattle.period_core.specs.Codes.{code_of}
use Rattle.period_core.specs.declared.refusal.Refusal.{Refusal}
use Rattle.period_core.specs.declared.refusal.Refusal.TheVariants.{Memory}

-- the refusal of the least number whose condition holds, by the condition of each
pub record IsLeast (Applies : Refusal → Type 0) (refusal : Refusal) : Type 0 where
  pub applies : Applies refusal
  pub least : (other : Refusal) → Applies other → code_of refusal ≤ code_of other

-- the answers that a call may give: the least, or out of memory in its place
abbrev pub MayAnswer : (Refusal → Type 0) → Refusal → Type 0
MayAnswer Applies refusal = IsLeast Applies refusal ⊎ (refusal ≡ Memory)

-- no condition holds
abbrev pub NoneApplies : (Refusal → Type 0) → Type 0
NoneApplies Applies = (refusal : Refusal) → Applies refusal → ⊥
