-- Periods in the order of their starts.
use Rattle.std.specs.Prelude.{◌<◌, ◌≤◌, ◌<ℤ◌, ◌≤ℤ◌, ℕ, ℤ, AllPairs, List, length, slice_index_or}
use Rattle.period_core.specs.declared.period.Period.{Period}

-- each starts no later than those after it
abbrev pub AreInOrder : List Period → Type 0
AreInOrder = AllPairs (λ first second. first.start ≤ℤ second.start)

-- the periods before the place start by the day, and those from there on later
abbrev pub FitsAt : ℤ → List Period → ℕ → Type 0
FitsAt day periods place =
    (place ≤ length periods)
    × ((k : ℕ) (d : Period) → k < place → (slice_index_or periods k d).start ≤ℤ day)
    × ((k : ℕ) (d : Period) → place ≤ k → k < length periods
    → day <ℤ (slice_index_or periods k d).start)
