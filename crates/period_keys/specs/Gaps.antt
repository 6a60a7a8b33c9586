-- Days of a period that no period of a list holds.
use Rattle.std.specs.Prelude.{◌≡◌, ℕ, ℤ, List, MatchOption, Option}
use Rattle.std.specs.List.{Any}
use Rattle.period_core.specs.declared.period.Period.{Period}
use Rattle.period_core.specs.declared.row.PeriodRow.{PeriodRow}
use Rattle.period_core.specs.declared.value.Value.{Value}
use Rattle.period_keys.specs.Keys.{IsWithin, key_values}

-- some of the periods holds the day
abbrev pub IsHeld : List Period → ℤ → Type 0
IsHeld periods day = Any (λ period. IsWithin period day) periods

-- some of the periods holds the day, and ends then
abbrev pub IsHeldUntil : List Period → ℤ → ℤ → Type 0
IsHeldUntil periods day end = Any (λ period. IsWithin period day × (period.end ≡ end)) periods

-- the end of one of the periods that hold the day, or none if no period holds it
abbrev pub IsEndOfHolder : List Period → ℤ → Option ℤ → Type 0
IsEndOfHolder periods day found =
    MatchOption found (IsHeld periods day → ⊥) (IsHeldUntil periods day)

-- the period holds the day, and none of the periods does
abbrev pub IsGap : List Period → Period → ℤ → Type 0
IsGap periods period day = IsWithin period day × (IsHeld periods day → ⊥)

-- some of the children holds on the day, and none of the parents' periods at its key does
abbrev pub LacksKeyOf : List ℕ → List PeriodRow → (List Value → List Period) → ℤ → Type 0
LacksKeyOf own children parents day =
    Any
    (λ (child : PeriodRow). IsGap (parents (key_values own child)) child.period day)
    children
