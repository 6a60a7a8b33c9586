use Rattle.std.proofs.Common.{◌≡◌, ◌+◌, ◌<◌, ℕ, Some, get_or}
use Rattle.std.specs.Prelude.{slice_get}
use Rattle.period_core.specs.declared.value.Value.{Value}
use Rattle.period_keys.proofs.key_after.known_value.Given as goal

abbrev pub invariant-loop-other : goal.invariant-loop-other
invariant-loop-other l =
    (k d index : ℕ) → k < l.other-index → (value : Value) → l.at + index ≡ get_or l.other-items k d → slice_get l.known index ≡ Some value → ⊥
