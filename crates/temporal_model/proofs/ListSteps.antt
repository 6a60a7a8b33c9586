-- A list that is copied or mapped element by element: one element more.
use Rattle.std.proofs.Common.{◌≡◌, ◌<◌, ◌+◌, ◌++◌, ◌∷◌, [], ◌∙◌, ℕ, List, ap, append_assoc, get_or, length, map, sym, take}
use Rattle.std.proofs.lemmas.List.{map_more, take_more}

-- the result for an element follows the results before it
pub mapped_more :
    {X Y : Type 0} (f : X → Y) (xs : List X) (i : ℕ) (x : X) (y : Y) (ys new : List Y) → i < length xs → x ≡ get_or xs i x → y ≡ f x → ys ≡ map f (take i xs)
    → new ≡ ys ++ y ∷ [] → new ≡ map f (take (i + 1) xs)
mapped_more {X} {Y} f xs i x y ys new inside at made so_far pushed =
    pushed ∙ ap (λ (zs : List Y). zs ++ y ∷ []) so_far ∙ ap (λ (z : Y). map f (take i xs) ++ z ∷ []) (made ∙ ap f at) ∙ sym (map_more f xs i x inside)

-- a copy follows other elements and the copies before
pub copied_more :
    {X : Type 0} (front xs ys new : List X) (i : ℕ) (x y : X) → i < length xs → x ≡ get_or xs i x → y ≡ x → ys ≡ front ++ take i xs → new ≡ ys ++ y ∷ []
    → new ≡ front ++ take (i + 1) xs
copied_more {X} front xs ys new i x y inside at copied so_far pushed =
    let more : take i xs ++ y ∷ [] ≡ take (i + 1) xs = ap (λ (z : X). take i xs ++ z ∷ []) (copied ∙ at) ∙ sym (take_more xs i x inside) in
    pushed ∙ ap (λ (zs : List X). zs ++ y ∷ []) so_far ∙ append_assoc front (take i xs) (y ∷ []) ∙ ap (λ (zs : List X). front ++ zs) more
