-- Pairs of elements of mapped and of filtered lists.
use Rattle.std.proofs.Common.{◌≡◌, Bool, true, false, cond, List, [], ◌∷◌, length, map, get_or, refl, sym, subst, inl, inr, arith}
use Rattle.std.specs.List.{filter}
use Rattle.std.proofs.lemmas.List.{get_or-map, length-map}
use Rattle.temporal_model.proofs.Members.{Contains-here, Contains-one}
use Rattle.period_keys.specs.Keys.{SomePair}
use Rattle.period_keys.proofs.Members.{from_filter}
use Rattle.period_keys.proofs.Pairs.{SomePair-append, SomePair-cross, SomePair-nil, SomePair-one, SomePair-right}

-- two elements in a relation in a mapped list are images of two in the list
pub pair_of_map : {X Y : Type 0} (R : Y → Y → Type 0) (f : X → Y) (xs : List X) → SomePair R (map f xs) → SomePair (λ a b. R (f a) (f b)) xs
pair_of_map R f xs (i, j, lt, below, both) =
    let size : length (map f xs) ≡ length xs = length-map xs f in (
      i,
      j,
      lt,
      omega arith,
      λ d.
          subst (λ y. R y (f (get_or xs j d))) (get_or-map f xs i d (f d) (omega arith))
          (subst (R (get_or (map f xs) i (f d))) (get_or-map f xs j d (f d) (omega arith)) (both (f d))),
    )

-- two elements in a relation in a filtered list are two in the list that pass
pub pair_of_filter :
    {X : Type 0} (test : X → Bool) (R S : X → X → Type 0) → ((x y : X) → test x ≡ true → test y ≡ true → R x y → S x y)
    → (xs : List X) → SomePair R (filter test xs) → SomePair S xs
pair_of_filter test R S gives [] h = absurd (SomePair-nil R h)
pair_of_filter {X} test R S gives (y ∷ ys) h = by_test (λ p. pair_of_filter test R S gives ys p) (test y) refl h
  where
    later : SomePair S ys → SomePair S (y ∷ ys)
    later p = SomePair-right S (y ∷ []) ys p

    by_test : (SomePair R (filter test ys) → SomePair S ys) → (b : Bool) → test y ≡ b → SomePair R (cond b (y ∷ filter test ys) (filter test ys)) → SomePair S (y ∷ ys)
    by_test rest true t p =
        elim (SomePair-append R (y ∷ []) (filter test ys) p) [
          | inl one ↦ absurd (SomePair-one R y one)
          | inr (inl (x, z, in_one, in_rest, pair)) ↦
              let (there, passes) = from_filter test ys z in_rest in
              let same : y ≡ x = Contains-one y x in_one in
              SomePair-cross S (y ∷ []) ys (y, z, Contains-here y [], there, gives y z t passes (subst (λ w. R w z) (sym same) pair))
          | inr (inr others) ↦ later (rest others)
        ]
    by_test rest false t p = later (rest p)
