use Rattle.std.proofs.Common.{ℤ, take}
use Rattle.std.specs.Prelude.{IfSome}
use Rattle.std.specs.List.{Any}
use Rattle.period_core.specs.declared.period.Period.{Period}
use Rattle.period_keys.specs.Keys.{IsLeastOf, IsWithin}
use Rattle.period_keys.specs.Gaps.{IsGap, IsHeld}
use Rattle.period_keys.specs.LookUps.{periods_of}
use Rattle.period_keys.proofs.gaps.first_gap_of_some.Given as goal

abbrev pub invariant-loop-child : goal.invariant-loop-child
invariant-loop-child l = record {
  least : IsLeastOf (λ day. Any (λ child. IsGap (periods_of l.periods) child day) (take l.child-index l.children)) l.found;
  known : IfSome l.held (λ (period : Period). (day : ℤ) → IsWithin period day → IsHeld (periods_of l.periods) day);
}
