-- Loops that take out the rows of a list one after another, or add them.
use Rattle.std.proofs.Common.{◌≡◌, ◌<◌, ◌≤◌, ◌+◌, ◌∷◌, [], ◌∙◌, ℕ, zero, suc, List, length, drop, take, get_or, map, refl, sym, ap, arith}
use Rattle.std.proofs.lemmas.List.{drop_more, get_or-map, get_or-take, length-take-le}

-- the result for an element at its place
pub worked_at : {X Y : Type 0} (f : X → Y) (ys : List Y) (xs : List X) (i : ℕ) (y : Y) (x : X) → ys ≡ map f xs → i < length xs → y ≡ get_or ys i y → x ≡ get_or xs i x → y ≡ f x
worked_at {X} {Y} f ys xs i y x made below y_is x_is =
    y_is ∙ ap (λ (zs : List Y). get_or zs i y) made ∙ get_or-map f xs i x y below ∙ ap f (sym x_is)

-- the first of those that are left
pub next_left : {X : Type 0} (xs : List X) (i : ℕ) (x : X) → i < length xs → x ≡ get_or xs i x → drop i xs ≡ x ∷ drop (i + 1) xs
next_left xs i x below is = drop_more xs i x below ∙ ap (λ y. y ∷ drop (i + 1) xs) (sym is)

-- the rest of the first elements of a list begins with the next one
pub next_of_first : {X : Type 0} (xs : List X) (count i : ℕ) (x : X) → i < count → count ≤ length xs → x ≡ get_or xs i x → drop i (take count xs) ≡ x ∷ drop (i + 1) (take count xs)
next_of_first xs count i x below inside is =
    let size : length (take count xs) ≡ count = length-take-le count xs inside in
    next_left (take count xs) i x (omega arith) (is ∙ sym (get_or-take count xs i x below))

pub none_left : {X : Type 0} (xs : List X) (n : ℕ) → length xs ≤ n → drop n xs ≡ []
none_left [] zero h = refl
none_left [] (suc n) h = refl
none_left (x ∷ xs) zero h = absurd (omega arith)
none_left (x ∷ xs) (suc n) h = none_left xs n (omega arith)
