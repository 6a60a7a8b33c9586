-- Pairs of entries: of two lists one after the other, and of a list in another order.
use Rattle.std.proofs.Common.{◌≡◌, ◌⊎◌, ℕ, ◌+◌, ◌-◌, ◌<◌, ◌≤◌, List, [], ◌∷◌, ◌++◌, length, get_or, refl, sym, ◌∙◌, ap, subst, inl, inr, arith, length-append}
use Rattle.std.specs.List.{swap, Contains}
use Rattle.std.specs.List.Sorted.{IsPermutation}
use Rattle.std.proofs.lemmas.Bool.{cases_lt}
use Rattle.std.proofs.lemmas.List.{get_or_default, get_or_append_left, get_or-append_right}
use Rattle.std.proofs.lemmas.List.Edits.{length-swap, swapped_from_swap}
use Rattle.std.proofs.lemmas.List.Sorted.{IsPermutation-keeps}
use Rattle.period_keys.specs.Keys.{SomePair}

-- an element of the first list and one of the second
abbrev pub SomeCross : {X : Type 0} → (X → X → Type 0) → List X → List X → Type 0
SomeCross {X} R xs ys = (x : X) × (y : X) × Contains xs x × Contains ys y × R x y

-- a pair of two lists together is one of the first, one of the second, or one from each
pub SomePair-append : {X : Type 0} (R : X → X → Type 0) (xs ys : List X) → SomePair R (xs ++ ys) → SomePair R xs ⊎ (SomeCross R xs ys ⊎ SomePair R ys)
SomePair-append {X} R xs ys (i, j, lt, below, both) =
    let size : length (xs ++ ys) ≡ length xs + length ys = length-append xs ys in
    elim (cases_lt i (length xs)) [
      | inl left ↦ elim (cases_lt j (length xs)) [
        | inl also ↦ inl (i, j, lt, also, λ d. subst (λ a. R a (get_or xs j d)) (get_or_append_left xs ys d i left) (subst (R (get_or (xs ++ ys) i d)) (get_or_append_left xs ys d j also) (both d)))
        | inr right ↦
            let d : X = pick xs i left in
            let place : j - length xs < length ys = omega arith in
            let a : X = get_or xs i d in
            let b : X = get_or ys (j - length xs) d in
            let pair : R a b = subst (λ a. R a (get_or ys (j - length xs) d)) (get_or_append_left xs ys d i left) (subst (R (get_or (xs ++ ys) i d)) (get_or-append_right xs ys (length xs) j d refl right) (both d)) in
            inr (inl (a, b, (i, left, get_or_default xs i a d left), (j - length xs, place, get_or_default ys (j - length xs) b d place), pair))
      ]
      | inr right ↦
          let later : length xs ≤ j = omega arith in
          inr (inr (i - length xs, j - length xs, omega arith, omega arith, λ d. subst (λ a. R a (get_or ys (j - length xs) d)) (get_or-append_right xs ys (length xs) i d refl right) (subst (R (get_or (xs ++ ys) i d)) (get_or-append_right xs ys (length xs) j d refl later) (both d))))
    ] where
      pick : (xs : List X) (i : ℕ) → i < length xs → X
      pick [] i h = absurd (omega arith)
      pick (x ∷ xs) i h = x

pub SomePair-left : {X : Type 0} (R : X → X → Type 0) (xs ys : List X) → SomePair R xs → SomePair R (xs ++ ys)
SomePair-left R xs ys (i, j, lt, below, both) =
    let size : length (xs ++ ys) ≡ length xs + length ys = length-append xs ys in
    let first : i < length xs = omega arith in
    (i, j, lt, omega arith, λ d. subst (λ a. R a (get_or (xs ++ ys) j d)) (sym (get_or_append_left xs ys d i first)) (subst (R (get_or xs i d)) (sym (get_or_append_left xs ys d j below)) (both d)))

-- the place of an element of the second list among both
right_place : {X : Type 0} (xs ys : List X) (k : ℕ) (d : X) → get_or (xs ++ ys) (length xs + k) d ≡ get_or ys k d
right_place xs ys k d =
    let back : length xs + k - length xs ≡ k = omega arith in
    get_or-append_right xs ys (length xs) (length xs + k) d refl (omega arith) ∙ ap (λ n. get_or ys n d) back

-- a pair of the second of two lists is one of both together
pub SomePair-right : {X : Type 0} (R : X → X → Type 0) (xs ys : List X) → SomePair R ys → SomePair R (xs ++ ys)
SomePair-right R xs ys (i, j, lt, below, both) =
    let size : length (xs ++ ys) ≡ length xs + length ys = length-append xs ys in
    (length xs + i, length xs + j, omega arith, omega arith, λ d. subst (λ a. R a (get_or (xs ++ ys) (length xs + j) d)) (sym (right_place xs ys i d)) (subst (R (get_or ys i d)) (sym (right_place xs ys j d)) (both d)))

-- a pair across two lists is one of both together
pub SomePair-cross : {X : Type 0} (R : X → X → Type 0) (xs ys : List X) → SomeCross R xs ys → SomePair R (xs ++ ys)
SomePair-cross R xs ys (x, y, (i, at_i, is_x), (j, at_j, is_y), pair) =
    let size : length (xs ++ ys) ≡ length xs + length ys = length-append xs ys in
    (i, length xs + j, omega arith, omega arith, λ d. subst (λ a. R a (get_or (xs ++ ys) (length xs + j) d)) (sym (get_or_append_left xs ys d i at_i ∙ get_or_default xs i d x at_i ∙ is_x)) (subst (R x) (sym (right_place xs ys j d ∙ get_or_default ys j d y at_j ∙ is_y)) pair))

pub SomePair-nil : {X : Type 0} (R : X → X → Type 0) → SomePair R [] → ⊥
SomePair-nil R (i, j, lt, below, both) = omega arith

pub SomePair-one : {X : Type 0} (R : X → X → Type 0) (x : X) → SomePair R (x ∷ []) → ⊥
SomePair-one R x (i, j, lt, below, both) = omega arith

pub SomePair-few : {X : Type 0} (R : X → X → Type 0) (xs : List X) → length xs < 2 → SomePair R xs → ⊥
SomePair-few R xs few (i, j, before, inside, both) = omega (arith, before, inside, few)

-- the place of the entry at i after a swap of a and b
abbrev pub IsPlaceAfterSwap : ℕ → ℕ → ℕ → ℕ → Type 0
IsPlaceAfterSwap a b i k = ((i ≡ a) × (k ≡ b)) ⊎ (((i ≡ b) × (k ≡ a)) ⊎ ((i ≡ a → ⊥) × (i ≡ b → ⊥) × (k ≡ i)))

stands : (a b i : ℕ) → (k : ℕ) × IsPlaceAfterSwap a b i k
stands a b i =
    elim (cases_lt i a) [
      | inl less ↦ apart (λ e. omega arith)
      | inr ge ↦ elim (cases_lt a i) [
        | inl more ↦ apart (λ e. omega arith)
        | inr le ↦ (b, inl (omega arith, refl))
      ]
    ] where
      apart : (i ≡ a → ⊥) → (k : ℕ) × IsPlaceAfterSwap a b i k
      apart other =
          elim (cases_lt i b) [
            | inl less ↦ (i, inr (inr (other, λ e. omega arith, refl)))
            | inr ge ↦ elim (cases_lt b i) [
              | inl more ↦ (i, inr (inr (other, λ e. omega arith, refl)))
              | inr le ↦ (a, inr (inl (omega arith, refl)))
            ]
          ]

places_apart : (a b i j k m : ℕ) → i < j → IsPlaceAfterSwap a b i k → IsPlaceAfterSwap a b j m → (k ≡ m → ⊥)
places_apart a b i j k m lt (inl p) (inl q) e = omega arith
places_apart a b i j k m lt (inl p) (inr (inl q)) e = omega arith
places_apart a b i j k m lt (inl p) (inr (inr q)) e = q.1 (omega arith)
places_apart a b i j k m lt (inr (inl p)) (inl q) e = omega arith
places_apart a b i j k m lt (inr (inl p)) (inr (inl q)) e = omega arith
places_apart a b i j k m lt (inr (inl p)) (inr (inr q)) e = q.0 (omega arith)
places_apart a b i j k m lt (inr (inr p)) (inl q) e = p.1 (omega arith)
places_apart a b i j k m lt (inr (inr p)) (inr (inl q)) e = p.0 (omega arith)
places_apart a b i j k m lt (inr (inr p)) (inr (inr q)) e = omega arith

place_below : (n a b i k : ℕ) → a < n → b < n → i < n → IsPlaceAfterSwap a b i k → k < n
place_below n a b i k ha hb hi (inl p) = omega arith
place_below n a b i k ha hb hi (inr (inl p)) = omega arith
place_below n a b i k ha hb hi (inr (inr p)) = omega arith

item_after_swap : {X : Type 0} (l : List X) (a b i k : ℕ) (d : X) → a < length l → b < length l → IsPlaceAfterSwap a b i k → get_or (swap l a b) k d ≡ get_or l i d
item_after_swap l a b i k d ha hb (inl p) = let s = swapped_from_swap l (swap l a b) a b d ha hb refl in ap (λ n. get_or (swap l a b) n d) p.1 ∙ s.1 ∙ ap (λ n. get_or l n d) (sym p.0)
item_after_swap l a b i k d ha hb (inr (inl p)) = let s = swapped_from_swap l (swap l a b) a b d ha hb refl in ap (λ n. get_or (swap l a b) n d) p.1 ∙ s.0 ∙ ap (λ n. get_or l n d) (sym p.0)
item_after_swap l a b i k d ha hb (inr (inr p)) = let s = swapped_from_swap l (swap l a b) a b d ha hb refl in ap (λ n. get_or (swap l a b) n d) p.2 ∙ s.2 i p.0 p.1

-- a symmetric relation of some two entries is one of some two in any order of the list
pub SomePair-permutation : {X : Type 0} (R : X → X → Type 0) → ((x y : X) → R x y → R y x) → (xs ys : List X) → IsPermutation xs ys → SomePair R xs → SomePair R ys
SomePair-permutation {X} R flip xs ys moved pair =
    IsPermutation-keeps xs (SomePair R) pair
    (λ l a b ha hb (i, j, lt, below, both).
    let (k, at_k) = stands a b i in
    let (m, at_m) = stands a b j in
    let same : length (swap l a b) ≡ length l = length-swap l a b in
    let below_k : k < length l = place_below (length l) a b i k ha hb (omega arith) at_k in
    let below_m : m < length l = place_below (length l) a b j m ha hb below at_m in
    let there : (d : X) → R (get_or (swap l a b) k d) (get_or (swap l a b) m d) =
    λ d. subst (λ x. R x (get_or (swap l a b) m d)) (sym (item_after_swap l a b i k d ha hb at_k)) (subst (R (get_or l i d)) (sym (item_after_swap l a b j m d ha hb at_m)) (both d)) in
    elim (cases_lt k m) [
      | inl first ↦ (k, m, first, omega arith, there)
      | inr ge ↦ elim (cases_lt m k) [
        | inl second ↦ (m, k, second, omega arith, λ d. flip (get_or (swap l a b) k d) (get_or (swap l a b) m d) (there d))
        | inr le ↦ absurd (places_apart a b i j k m lt at_k at_m (omega arith))
      ]
    ])
    ys moved
