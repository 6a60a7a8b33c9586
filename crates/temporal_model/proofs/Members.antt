-- Membership in lists: heads and tails, a pigeonhole, and lists that have the same members.
use Rattle.std.proofs.Common.{◌≡◌, zero, suc, ◌≤◌, List, [], ◌∷◌, length, map, refl, sym, ◌∙◌, subst, inl, inr, ◌⊎◌, arith}
use Rattle.std.specs.List.{Contains, AllPairs, AllZip, remove}
use Rattle.std.specs.List.Sorted.{IsPermutation}
use Rattle.std.proofs.lemmas.List.Sorted.{IsPermutation-remove, IsPermutation-cons, IsPermutation-trans, IsPermutation-refl, Contains-permutation, length_permutation}

-- a list contains its first element
pub Contains-here : {X : Type 0} (x : X) (xs : List X) → Contains (x ∷ xs) x
Contains-here x xs = (0, omega arith, refl)

-- a list contains what its rest contains
pub Contains-there : {X : Type 0} (x : X) (xs : List X) (y : X) → Contains xs y → Contains (x ∷ xs) y
Contains-there x xs y (k, h, e) = (suc k, omega arith, e)

-- an empty list contains nothing
pub Contains-nil : {X : Type 0} (y : X) → Contains [] y → ⊥
Contains-nil y (k, h, e) = omega arith

-- a member of a list is its first element or a member of its rest
pub Contains-cons_cases :
    {X : Type 0} (x : X) (xs : List X) (y : X) → Contains (x ∷ xs) y → (x ≡ y) ⊎ Contains xs y
Contains-cons_cases x xs y (zero, h, e) = inl e
Contains-cons_cases x xs y (suc k, h, e) = inr (k, omega arith, e)

-- a member of a list of one element is that element
pub Contains-one : {X : Type 0} (x y : X) → Contains (x ∷ []) y → x ≡ y
Contains-one x y c = elim (Contains-cons_cases x [] y c) [
  | inl e ↦ e
  | inr k ↦ absurd (Contains-nil y k)
]

-- a relation of all pairs of a list holds of all pairs of its rest
pub AllPairs-tail :
    {X : Type 0} (R : X → X → Type 0) (x : X) (xs : List X) → AllPairs R (x ∷ xs) → AllPairs R xs
AllPairs-tail R x xs all = λ i j d lt below. all (suc i) (suc j) d (omega arith) (omega arith)

-- the head is before each member of the tail
pub AllPairs-head :
    {X : Type 0} (R : X → X → Type 0) (x : X) (xs : List X) → AllPairs R (x ∷ xs) → (y : X)
    → Contains xs y → R x y
AllPairs-head R x xs all y (k, h, e) = subst (R x) e (all 0 (suc k) y (omega arith) (omega arith))

-- a list without one of its members
pub rest_of :
    {X : Type 0} (ys : List X) (y : X) → Contains ys y
    → (rest : List X) × IsPermutation ys (y ∷ rest)
rest_of ys y (k, h, e) = (remove ys k, IsPermutation-remove ys k y h (sym e))

-- no member is the image of two elements
abbrev pub NoImageShared : {X : Type 0} → (X → X → Type 0) → X → X → Type 0
NoImageShared {X} S a b = (y : X) → S a y → S b y → ⊥

-- a map that sends each member of xs to a member of ys, and no two to one: xs is no longer than ys
pub pigeonhole :
    {X : Type 0} (S : X → X → Type 0) (xs ys : List X)
    → ((x : X) → Contains xs x → (y : X) × Contains ys y × S x y) → AllPairs (NoImageShared S) xs
    → length xs ≤ length ys
pigeonhole S [] ys send distinct = omega arith
pigeonhole {X} S (x ∷ xs) ys send distinct =
    let (y, there, s) = send x (Contains-here x xs) in
    let (rest, moved) = rest_of ys y there in
    let sent : (z : X) → Contains xs z → (w : X) × Contains rest w × S z w =
    λ z c. let (w, inside, t) = send z (Contains-there x xs z c) in
    elim (Contains-cons_cases y rest w (Contains-permutation ys (y ∷ rest) w moved inside)) [
      | inl e ↦ absurd (AllPairs-head (NoImageShared S) x xs distinct z c y s (subst (S z) (sym e) t))
      | inr k ↦ (w, k, t)
    ] in
    let shorter : length xs ≤ length rest = pigeonhole S xs rest sent (AllPairs-tail (NoImageShared S) x xs distinct) in
    let same : length (y ∷ rest) ≡ length ys = length_permutation ys (y ∷ rest) moved in
    omega arith

-- if ys is no longer than xs, each member of ys is an image
pub onto :
    {X : Type 0} (S : X → X → Type 0) (xs ys : List X)
    → ((x : X) → Contains xs x → (y : X) × Contains ys y × S x y) → AllPairs (NoImageShared S) xs
    → length ys ≤ length xs → (y : X) → Contains ys y → (x : X) × Contains xs x × S x y
onto S [] ys send distinct short w (k, below, e) = absurd (omega arith)
onto {X} S (x ∷ xs) ys send distinct short w member =
    let (y, there, s) = send x (Contains-here x xs) in
    let (rest, moved) = rest_of ys y there in
    let sent : (z : X) → Contains xs z → (w : X) × Contains rest w × S z w =
    λ z c. let (w, inside, t) = send z (Contains-there x xs z c) in
    elim (Contains-cons_cases y rest w (Contains-permutation ys (y ∷ rest) w moved inside)) [
      | inl e ↦ absurd (AllPairs-head (NoImageShared S) x xs distinct z c y s (subst (S z) (sym e) t))
      | inr k ↦ (w, k, t)
    ] in
    let same : length (y ∷ rest) ≡ length ys = length_permutation ys (y ∷ rest) moved in
    let shorter : length rest ≤ length xs = omega arith in
    elim (Contains-cons_cases y rest w (Contains-permutation ys (y ∷ rest) w moved member)) [
      | inl e ↦ (x, Contains-here x xs, subst (S x) e s)
      | inr k ↦ let (z, c, t) = onto S xs rest sent (AllPairs-tail (NoImageShared S) x xs distinct) shorter w k in (z, Contains-there x xs z c, t)
    ]

-- a list without repeats whose members ys has, and that is no shorter than ys, is ys in another order
pub permutation_from_members :
    {X : Type 0} (xs ys : List X) → ((x : X) → Contains xs x → Contains ys x)
    → AllPairs (λ a b. a ≡ b → ⊥) xs → length ys ≤ length xs → IsPermutation ys xs
permutation_from_members [] [] inside distinct short = IsPermutation-refl []
permutation_from_members [] (y ∷ ys) inside distinct short = absurd (omega arith)
permutation_from_members {X} (x ∷ xs) ys inside distinct short =
    let (rest, moved) = rest_of ys x (inside x (Contains-here x xs)) in
    let kept : (z : X) → Contains xs z → Contains rest z =
    λ z c. elim (Contains-cons_cases x rest z (Contains-permutation ys (x ∷ rest) z moved (inside z (Contains-there x xs z c)))) [
      | inl e ↦ absurd (AllPairs-head (λ a b. a ≡ b → ⊥) x xs distinct z c e)
      | inr k ↦ k
    ] in
    let same : length (x ∷ rest) ≡ length ys = length_permutation ys (x ∷ rest) moved in
    let shorter : length rest ≤ length xs = omega arith in
    let tails : IsPermutation rest xs = permutation_from_members xs rest kept (AllPairs-tail (λ a b. a ≡ b → ⊥) x xs distinct) shorter in
    IsPermutation-trans ys (x ∷ rest) (x ∷ xs) moved (IsPermutation-cons x rest xs tails)

-- two lists in a strict order that have the same members are equal
pub same_from_members :
    {X : Type 0} (R : X → X → Type 0) → ((a b : X) → R a b → R b a → ⊥) → (xs ys : List X)
    → AllPairs R xs → AllPairs R ys → ((z : X) → Contains xs z → Contains ys z)
    → ((z : X) → Contains ys z → Contains xs z) → xs ≡ ys
same_from_members R strict [] [] up down there back = refl
same_from_members R strict [] (y ∷ ys) up down there back = absurd (Contains-nil y (back y (Contains-here y ys)))
same_from_members R strict (x ∷ xs) [] up down there back = absurd (Contains-nil x (there x (Contains-here x xs)))
same_from_members {X} R strict (x ∷ xs) (y ∷ ys) up down there back =
    let heads : y ≡ x = elim (Contains-cons_cases y ys x (there x (Contains-here x xs))) [
      | inl e ↦ e
      | inr in_ys ↦ elim (Contains-cons_cases x xs y (back y (Contains-here y ys))) [
        | inl e ↦ sym e
        | inr in_xs ↦ absurd (strict x y (AllPairs-head R x xs up y in_xs) (AllPairs-head R y ys down x in_ys))
      ]
    ] in
    let forth : (z : X) → Contains xs z → Contains ys z =
    λ z c. elim (Contains-cons_cases y ys z (there z (Contains-there x xs z c))) [
      | inl e ↦ let before : R x z = AllPairs-head R x xs up z c in
          let equal : x ≡ z = sym heads ∙ e in
          absurd (let now : R z z = subst (λ w. R w z) equal before in strict z z now now)
      | inr k ↦ k
    ] in
    let again : (z : X) → Contains ys z → Contains xs z =
    λ z c. elim (Contains-cons_cases x xs z (back z (Contains-there y ys z c))) [
      | inl e ↦ let before : R y z = AllPairs-head R y ys down z c in
          let equal : y ≡ z = heads ∙ e in
          absurd (let now : R z z = subst (λ w. R w z) equal before in strict z z now now)
      | inr k ↦ k
    ] in
    let tails : xs ≡ ys = same_from_members R strict xs ys (AllPairs-tail R x xs up) (AllPairs-tail R y ys down) forth again in
    cc

-- the results of a function, in the places of the elements
pub AllZip-map :
    {X Y : Type 0} (P : X → Y → Type 0) (f : X → Y) (xs : List X)
    → ((x : X) → Contains xs x → P x (f x)) → AllZip P xs (map f xs)
AllZip-map P f [] each = tt
AllZip-map P f (x ∷ xs) each = (each x (Contains-here x xs), AllZip-map P f xs (λ y c. each y (Contains-there x xs y c)))
