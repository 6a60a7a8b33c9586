-- Keys and references among the rows that hold on one day, without their periods.
use Rattle.std.specs.Prelude.{◌≡◌, ℕ, List, Contains}
use Rattle.period_core.specs.declared.value.Value.{Value}
use Rattle.period_keys.specs.Keys.{SomePair, values_at}

-- two of the day's rows have equal keys; equal rows at two places are two rows
abbrev pub ShareKey : List ℕ → List (List Value) → Type 0
ShareKey positions rows =
    SomePair (λ first second. values_at positions first ≡ values_at positions second) rows

-- one of the day's children has no parent of its key
abbrev pub LacksParent : List ℕ → List (List Value) → List ℕ → List (List Value) → Type 0
LacksParent own children keys parents =
    (child : List Value) × Contains children child
    × ((parent : List Value) → Contains parents parent
    → values_at keys parent ≡ values_at own child → ⊥)
