-- Pairs of the elements of a list, by the pairs of its parts.
use Rattle.std.proofs.Common.{ℕ, zero, suc, ◌<◌, List, [], ◌∷◌, ◌++◌, length, get_or, arith}
use Rattle.std.specs.List.{Contains, AllPairs}
use Rattle.std.proofs.lemmas.List.Elements.{Contains-append_left, Contains-get_or}
use Rattle.temporal_model.proofs.Members.{AllPairs-head, AllPairs-tail}

pub AllPairs-front :
    {X : Type 0} (R : X → X → Type 0) (x : X) (xs : List X)
    → ((y : X) → Contains xs y → R x y) → AllPairs R xs → AllPairs R (x ∷ xs)
AllPairs-front {X} R x xs before all = λ i j d lt below. at i j d lt below
  where
    at : (i j : ℕ) (d : X) → i < j → j < length (x ∷ xs) → R (get_or (x ∷ xs) i d) (get_or (x ∷ xs) j d)
    at i zero d lt below = absurd (omega arith)
    at zero (suc j) d lt below = before (get_or xs j d) (Contains-get_or xs j d (omega arith))
    at (suc i) (suc j) d lt below = all i j d (omega arith) (omega arith)

pub AllPairs-one : {X : Type 0} (R : X → X → Type 0) (x : X) → AllPairs R (x ∷ [])
AllPairs-one R x = λ i j d lt below. absurd (omega arith)

pub AllPairs-end :
    {X : Type 0} (R : X → X → Type 0) (xs ys : List X) → AllPairs R (xs ++ ys) → AllPairs R ys
AllPairs-end R [] ys all = all
AllPairs-end R (x ∷ xs) ys all = AllPairs-end R xs ys (AllPairs-tail R x (xs ++ ys) all)

pub AllPairs-begin :
    {X : Type 0} (R : X → X → Type 0) (xs ys : List X) → AllPairs R (xs ++ ys) → AllPairs R xs
AllPairs-begin R [] ys all = λ i j d lt below. absurd (omega arith)
AllPairs-begin R (x ∷ xs) ys all =
    AllPairs-front R x xs
    (λ y c. AllPairs-head R x (xs ++ ys) all y (Contains-append_left xs ys y c))
    (AllPairs-begin R xs ys (AllPairs-tail R x (xs ++ ys) all))
