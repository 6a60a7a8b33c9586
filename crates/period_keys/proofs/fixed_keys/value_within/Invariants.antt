use Rattle.std.proofs.Common.{◌<◌, ℕ, get_or}
use Rattle.period_core.specs.declared.value.Value.{Value}
use Rattle.period_keys.specs.FixedKeys.{SomeStates}
use Rattle.period_keys.proofs.fixed_keys.value_within.Given as goal

abbrev pub invariant-loop-other : goal.invariant-loop-other
invariant-loop-other l = (k d : ℕ) → k < l.other-index → (value : Value) → SomeStates l.comparison l.conditions (get_or l.other-items k d) value → ⊥
