-- A property that holds of the first of a list's elements, and not of the next.
use Rattle.std.proofs.Common.{◌<◌, ◌≤◌, ℕ, List, length, take, get_or, sym, subst, arith}
use Rattle.std.specs.List.{All}
use Rattle.std.proofs.lemmas.Option.{get_or_from_slice_get, slice_get_within}
use Rattle.period_keys.specs.FixedKeys.{HoldsOfFirst}

module _ {X : Type 0} (Has : X → Type 0) (xs : List X) (count : ℕ) where
  -- the property holds of the first elements, and not of the next
  pub stopped : (d : X) → count < length xs → All Has (take count xs) → (Has (get_or xs count d) → ⊥) → HoldsOfFirst Has xs count
  stopped d below first lacks = record {
    within = omega (arith, below);
    first = first;
    next = λ x at has. lacks (subst Has (sym (get_or_from_slice_get xs count x d at)) has);
  }

  -- the property holds of all elements
  pub all_hold : length xs ≤ count → count ≤ length xs → All Has (take count xs) → HoldsOfFirst Has xs count
  all_hold last within first = record {
    within = within;
    first = first;
    next = λ x at has. (let below = slice_get_within xs count x at in omega (arith, below, last));
  }
