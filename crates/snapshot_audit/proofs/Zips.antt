-- Lists that are related element by element.
use Rattle.std.proofs.Common.{◌≡◌, ◌<◌, ◌+◌, ℕ, zero, suc, List, [], ◌∷◌, ◌++◌, length, get_or, take, map, sym, ap, ◌∙◌, arith}
use Rattle.std.specs.List.{AllZip, Contains}
use Rattle.std.proofs.lemmas.List.{take_more, get_or-map, length-map}

-- a relation of two lists, with one more pair
pub zip_push :
    {A B : Type 0} (R : A → B → Type 0) (xs : List A) (ys : List B) (x : A) (y : B) → AllZip R xs ys → R x y
    → AllZip R (xs ++ x ∷ []) (ys ++ y ∷ [])
zip_push R [] [] x y all one = (one, tt)
zip_push R [] (b ∷ ys) x y all one = absurd all
zip_push R (a ∷ xs) [] x y all one = absurd all
zip_push R (a ∷ xs) (b ∷ ys) x y all one = (all.0, zip_push R xs ys x y all.1 one)

-- a relation of the first elements of two lists, with one more pair
pub zip_more :
    {A B : Type 0} (R : A → B → Type 0) (xs : List A) (ys : List B) (k : ℕ) (x : A) (y : B) → k < length xs
    → x ≡ get_or xs k x → AllZip R (take k xs) ys → R x y → AllZip R (take (k + 1) xs) (ys ++ y ∷ [])
zip_more R xs ys k x y inside at all one =
    let more : take (k + 1) xs ≡ take k xs ++ x ∷ [] = take_more xs k x inside ∙ ap (λ r. take k xs ++ r ∷ []) (sym at) in
    rw more (zip_push R (take k xs) ys x y all one)

-- a relation through a list between
pub zip_through :
    {A B C : Type 0} (R : A → B → Type 0) (S : B → C → Type 0) (T : A → C → Type 0)
    → ((x : A) (y : B) (z : C) → R x y → S y z → T x z)
    → (xs : List A) (ys : List B) (zs : List C) → AllZip R xs ys → AllZip S ys zs → AllZip T xs zs
zip_through R S T step [] [] [] r s = tt
zip_through R S T step [] [] (z ∷ zs) r s = absurd s
zip_through R S T step [] (y ∷ ys) zs r s = absurd r
zip_through R S T step (x ∷ xs) [] zs r s = absurd r
zip_through R S T step (x ∷ xs) (y ∷ ys) [] r s = absurd s
zip_through R S T step (x ∷ xs) (y ∷ ys) (z ∷ zs) r s = (step x y z r.0 s.0, zip_through R S T step xs ys zs r.1 s.1)

-- a relation of two lists implies a weaker one
pub zip_weaker :
    {A B : Type 0} (R S : A → B → Type 0) → ((x : A) (y : B) → R x y → S x y)
    → (xs : List A) (ys : List B) → AllZip R xs ys → AllZip S xs ys
zip_weaker R S step [] [] r = tt
zip_weaker R S step [] (y ∷ ys) r = absurd r
zip_weaker R S step (x ∷ xs) [] r = absurd r
zip_weaker R S step (x ∷ xs) (y ∷ ys) r = (step x y r.0, zip_weaker R S step xs ys r.1)

-- a relation of two lists holds at each place, if it holds of the defaults too
pub zip_at :
    {A B : Type 0} (R : A → B → Type 0) (d : A) (e : B) → R d e → (xs : List A) (ys : List B) (place : ℕ)
    → AllZip R xs ys → R (get_or xs place d) (get_or ys place e)
zip_at R d e none [] [] place r = none
zip_at R d e none [] (y ∷ ys) place r = absurd r
zip_at R d e none (x ∷ xs) [] place r = absurd r
zip_at R d e none (x ∷ xs) (y ∷ ys) zero r = r.0
zip_at R d e none (x ∷ xs) (y ∷ ys) (suc place) r = zip_at R d e none xs ys place r.1

-- a relation of two lists, the second by its images
pub zip_map :
    {A B C : Type 0} (R : A → C → Type 0) (f : B → C) (xs : List A) (ys : List B)
    → AllZip (λ x y. R x (f y)) xs ys → AllZip R xs (map f ys)
zip_map R f [] [] r = tt
zip_map R f [] (y ∷ ys) r = absurd r
zip_map R f (x ∷ xs) [] r = absurd r
zip_map R f (x ∷ xs) (y ∷ ys) r = (r.0, zip_map R f xs ys r.1)

-- the value of a member is among the values of the members
pub contains_map : {A B : Type 0} (f : A → B) (xs : List A) (x : A) → Contains xs x → Contains (map f xs) (f x)
contains_map f xs x (k, inside, at) =
    let same = length-map xs f in
    (k, omega arith, get_or-map f xs k x (f x) inside ∙ ap f at)
