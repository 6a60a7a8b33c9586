-- Edits of a list in order, at the place that a comparison gives, and by number.
use Rattle.std.specs.Prelude.{◌≡◌, ◌+◌, ◌++◌, ℕ, Bool, true, false, not, if◌then◌else◌}
use Rattle.std.specs.Prelude.{List, [], ◌∷◌, drop, filter, length, take}
use Rattle.std.specs.declared.cmp.Ordering.{Ordering}
use Rattle.std.specs.declared.cmp.Ordering.TheVariants.{Less, Equal, Greater}
use Rattle.std.specs.List.{AllByRecursion}
use Rattle.std.specs.Ordering.{is_lt, is_eq, match_ordering}
use Rattle.sqlite_value.specs.Order.{Row}
use Rattle.sqlite_trees.specs.Tree.{IsAscending}

-- first the rows below the place, then the one at it, if any, then those above it
abbrev pub IsCut : (Row → Ordering) → List Row → Type 0
IsCut side = IsAscending (λ a b. is_lt (side a) ≡ false → side b ≡ Greater)

-- the rows, with a new one at the place: it replaces the one that exists, or that one stays
abbrev pub with_new : (Row → Ordering) → Bool → Row → List Row → List Row
with_new side replaces new [] = new ∷ []
with_new side replaces new (r ∷ rs) =
    match_ordering (side r) (r ∷ with_new side replaces new rs)
    ((if replaces then new else r) ∷ rs) (new ∷ r ∷ rs)

-- the rows that are not at the place
abbrev pub without : (Row → Ordering) → List Row → List Row
without side = filter (λ r. not (is_eq (side r)))

-- a row that is found at the place, or none
abbrev pub IsAt : (Row → Ordering) → List Row → Row → Bool → Type 0
IsAt side rows row found = filter (λ r. is_eq (side r)) rows ≡ (if found then row ∷ [] else [])

-- one row at the place, or none
abbrev pub IsHere : (Row → Ordering) → List Row → Bool → Type 0
IsHere side [] found = found ≡ false
IsHere side (r ∷ rs) found = (found ≡ true) × (side r ≡ Equal) × (rs ≡ [])

-- `at` rows are below the place, then there is one at it or none, and the rest are above it
pub record IsPlaced (side : Row → Ordering) (rows : List Row) (at : ℕ) (found : Bool) : Type 0 where
  pub below : List Row
  pub here : List Row
  pub above : List Row
  pub is : rows ≡ below ++ (here ++ above)
  pub number : length below ≡ at
  pub lower : AllByRecursion (λ r. side r ≡ Less) below
  pub same : IsHere side here found
  pub upper : AllByRecursion (λ r. side r ≡ Greater) above

-- the rows, with one more before the one with this number
abbrev pub inserted : ℕ → Row → List Row → List Row
inserted at new rows = take at rows ++ new ∷ drop at rows

-- the rows without the one with this number
abbrev pub removed : ℕ → List Row → List Row
removed at rows = take at rows ++ drop (at + 1) rows
