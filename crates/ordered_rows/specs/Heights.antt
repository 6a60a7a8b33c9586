-- The heights of balanced trees. A tree's height is the number of forks on the longest way down.
use Rattle.std.specs.Prelude.{◌≡◌, ◌+◌, ◌*◌, ◌^◌, ◌≤◌, ℕ, max}

-- neither height is more than this above the other
abbrev pub DifferByAtMost : ℕ → ℕ → ℕ → Type 0
DifferByAtMost by left right = (left ≤ right + by) × (right ≤ left + by)

-- the second height is the first, or one more
abbrev pub GrowsByAtMostOne : ℕ → ℕ → Type 0
GrowsByAtMostOne old new = (old ≤ new) × (new ≤ old + 1)

-- the height of what a fork with sides of two heights becomes once its sides are balanced
pub record IsSettled (left right height : ℕ) : Type 0 where
  pub grows : GrowsByAtMostOne (max left right) height
  pub balanced : DifferByAtMost 1 left right → height ≡ max left right + 1

-- the height is at most the logarithm to the base 21/13 of one more than the number of rows
abbrev pub IsLow : ℕ → ℕ → Type 0
IsLow height rows = 21 ^ height ≤ 13 ^ height * (rows + 1)

-- the height is at most 1.45 times the binary logarithm of one more than the number of rows
abbrev pub IsLogarithmic : ℕ → ℕ → Type 0
IsLogarithmic height rows = 2 ^ (20 * height) ≤ (rows + 1) ^ 29

-- a low tree's height is at most 1.45 times the binary logarithm
abbrev pub LowIsLogarithmic : Type 0
LowIsLogarithmic = (height rows : ℕ) → IsLow height rows → IsLogarithmic height rows
