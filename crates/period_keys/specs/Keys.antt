-- The key of a row, and the days on which two rows of a list clash or a child has no parent.
use Rattle.std.specs.Prelude.{◌≡◌, ◌<◌, ◌≤ℤ◌, ◌<ℤ◌, ℕ, ℤ, Option, List, length, Contains}
use Rattle.std.specs.Prelude.{MatchOption, slice_get, slice_index_or}
use Rattle.std.specs.List.{filter_map}
use Rattle.period_core.specs.declared.value.Value.{Value}
use Rattle.period_core.specs.declared.period.Period.{Period}
use Rattle.period_core.specs.declared.row.PeriodRow.{PeriodRow}

-- the period holds the day
abbrev pub IsWithin : Period → ℤ → Type 0
IsWithin period day = (period.start ≤ℤ day) × (day <ℤ period.end)

-- both periods hold the day
abbrev pub BothHold : ℤ → Period → Period → Type 0
BothHold day first second = IsWithin first day × IsWithin second day

-- the values at these positions, in this order. A position past the last gives none.
abbrev pub values_at : List ℕ → List Value → List Value
values_at positions values = filter_map (slice_get values) positions

-- a row's values at these positions: its key
abbrev pub key_values : List ℕ → PeriodRow → List Value
key_values positions row = values_at positions row.values

-- the two rows have equal keys, and both hold on the day
abbrev pub ShareKeyOn : List ℕ → ℤ → PeriodRow → PeriodRow → Type 0
ShareKeyOn positions day first second =
    (key_values positions first ≡ key_values positions second)
    × BothHold day first.period second.period

-- the relation holds of some element and a later one
abbrev pub SomePair : {X : Type 0} → (X → X → Type 0) → List X → Type 0
SomePair {X} R xs =
    (i : ℕ) × (j : ℕ) × (i < j) × (j < length xs)
    × ((d : X) → R (slice_index_or xs i d) (slice_index_or xs j d))

-- two entries of the list clash on the day; equal rows at two places are two entries
abbrev pub IsKeyClash : List ℕ → List PeriodRow → ℤ → Type 0
IsKeyClash positions rows day = SomePair (ShareKeyOn positions day) rows

-- no two entries clash on any day
abbrev pub HasNoClash : List ℕ → List PeriodRow → Type 0
HasNoClash positions rows = (day : ℤ) → IsKeyClash positions rows day → ⊥

-- some parent has the child's key and holds on the day
abbrev pub HasParent : List ℕ → PeriodRow → List ℕ → List PeriodRow → ℤ → Type 0
HasParent own child keys parents day =
    (parent : PeriodRow) × Contains parents parent
    × (key_values keys parent ≡ key_values own child) × IsWithin parent.period day

-- some child holds on the day, and no parent of its key does
abbrev pub IsUncovered : List ℕ → List PeriodRow → List ℕ → List PeriodRow → ℤ → Type 0
IsUncovered own children keys parents day =
    (child : PeriodRow) × Contains children child × IsWithin child.period day
    × (HasParent own child keys parents day → ⊥)

-- each child has a parent on each of its days
abbrev pub IsEachCovered : List ℕ → List PeriodRow → List ℕ → List PeriodRow → Type 0
IsEachCovered own children keys parents =
    (day : ℤ) → IsUncovered own children keys parents day → ⊥

-- the day is one of the days, and none of them is earlier
pub record IsLeastDay (IsFaulty : ℤ → Type 0) (day : ℤ) : Type 0 where
  pub faulty : IsFaulty day
  pub least : (other : ℤ) → IsFaulty other → day ≤ℤ other

-- the least of the days, or none if there is none
abbrev pub IsLeastOf : (ℤ → Type 0) → Option ℤ → Type 0
IsLeastOf IsFaulty found =
    MatchOption found ((day : ℤ) → IsFaulty day → ⊥) (IsLeastDay IsFaulty)
