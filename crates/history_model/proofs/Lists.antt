-- Lists by their elements: what a test leaves, what each element gives, and other orders of them.
use Rattle.std.proofs.Common.{◌≡◌, zero, suc, List, [], ◌∷◌, ◌++◌, Bool, true, false, cond, map, refl, sym, ◌∙◌, ap, ap₂, subst, append_assoc, arith}
use Rattle.std.specs.List.{All, filter, flat_map}
use Rattle.std.specs.List.Sorted.{IsPermutation}
use Rattle.std.proofs.lemmas.List.Concat.{flat_map-append}
use Rattle.std.proofs.lemmas.List.Elements.{All-head, All-tail}
use Rattle.std.proofs.lemmas.List.Sorted.{IsPermutation-refl, IsPermutation-trans, IsPermutation-append_left, IsPermutation-append_right, IsPermutation-append_comm}
use Rattle.temporal_model.proofs.Rearranged.{Rearranged, from_permutation}

-- a list of one element, or of none
abbrev pub one_if : {X : Type 0} → Bool → X → List X
one_if b x = cond b (x ∷ []) []

-- equal lists are permutations of each other
pub same_order : {X : Type 0} (xs ys : List X) → xs ≡ ys → IsPermutation xs ys
same_order xs ys e = subst (IsPermutation xs) e (IsPermutation-refl xs)

pub filtered : {X Y : Type 0} (f : X → Y) (p : X → Bool) (xs : List X) → map f (filter p xs) ≡ flat_map (λ x. one_if (p x) (f x)) xs
filtered f p [] = refl
filtered f p (x ∷ xs) = go (p x) (filtered f p xs)
  where
    go : (b : Bool) → map f (filter p xs) ≡ flat_map (λ x. one_if (p x) (f x)) xs
        → map f (cond b (x ∷ filter p xs) (filter p xs)) ≡ one_if b (f x) ++ flat_map (λ x. one_if (p x) (f x)) xs
    go true ih = ap (λ l. f x ∷ l) ih
    go false ih = ih

-- the values of the elements that pass a test
pub chosen : {X Y : Type 0} (p : X → Bool) (f : X → List Y) (xs : List X) → flat_map f (filter p xs) ≡ flat_map (λ x. cond (p x) (f x) []) xs
chosen p f [] = refl
chosen p f (x ∷ xs) = go (p x) (chosen p f xs)
  where
    go : (b : Bool) → flat_map f (filter p xs) ≡ flat_map (λ x. cond (p x) (f x) []) xs
        → flat_map f (cond b (x ∷ filter p xs) (filter p xs)) ≡ cond b (f x) [] ++ flat_map (λ x. cond (p x) (f x) []) xs
    go true ih = ap (λ l. f x ++ l) ih
    go false ih = ih

pub flat_map-same : {X Y : Type 0} (f g : X → List Y) → ((x : X) → f x ≡ g x) → (xs : List X) → flat_map f xs ≡ flat_map g xs
flat_map-same f g same [] = refl
flat_map-same f g same (x ∷ xs) = ap₂ (λ a b. a ++ b) (same x) (flat_map-same f g same xs)

-- equal functions over elements of which a fact holds
pub flat_map-same_of : {X Y : Type 0} (P : X → Type 0) (f g : X → List Y) → ((x : X) → P x → f x ≡ g x) → (xs : List X) → All P xs → flat_map f xs ≡ flat_map g xs
flat_map-same_of P f g same [] h = refl
flat_map-same_of P f g same (x ∷ xs) h = ap₂ (λ a b. a ++ b) (same x (All-head P x xs h)) (flat_map-same_of P f g same xs (All-tail P x xs h))

pub flat_map-none : {X Y : Type 0} (f : X → List Y) → ((x : X) → f x ≡ []) → (xs : List X) → flat_map f xs ≡ []
flat_map-none f none [] = refl
flat_map-none f none (x ∷ xs) = ap₂ (λ a b. a ++ b) (none x) (flat_map-none f none xs)

-- a flat_map over a map is one flat_map
pub flat_map-of_map : {X Y Z : Type 0} (f : Y → List Z) (g : X → Y) (xs : List X) → flat_map f (map g xs) ≡ flat_map (λ x. f (g x)) xs
flat_map-of_map f g [] = refl
flat_map-of_map f g (x ∷ xs) = ap (λ l. f (g x) ++ l) (flat_map-of_map f g xs)

-- a flat_map over a flat_map is one flat_map
pub flat_map-nested : {X Y Z : Type 0} (f : Y → List Z) (g : X → List Y) (xs : List X) → flat_map f (flat_map g xs) ≡ flat_map (λ x. flat_map f (g x)) xs
flat_map-nested f g [] = refl
flat_map-nested f g (x ∷ xs) = flat_map-append f (g x) (flat_map g xs) ∙ ap (λ l. flat_map f (g x) ++ l) (flat_map-nested f g xs)

-- two lists before a third change places
pub exchange : {X : Type 0} (xs ys zs : List X) → IsPermutation (xs ++ (ys ++ zs)) (ys ++ (xs ++ zs))
exchange xs ys zs =
    subst (λ l. IsPermutation l (ys ++ (xs ++ zs))) (append_assoc xs ys zs)
    (subst (IsPermutation ((xs ++ ys) ++ zs)) (append_assoc ys xs zs) (IsPermutation-append_left zs (xs ++ ys) (ys ++ xs) (IsPermutation-append_comm xs ys)))

-- the values of the elements in another order
pub flat_map-permutation : {X Y : Type 0} (f : X → List Y) (xs ys : List X) → IsPermutation xs ys → IsPermutation (flat_map f xs) (flat_map f ys)
flat_map-permutation {X} {Y} f xs ys p = go xs ys (from_permutation xs ys p)
  where
    go : (xs ys : List X) → Rearranged xs ys → IsPermutation (flat_map f xs) (flat_map f ys)
    go [] ys e = subst (λ l. IsPermutation [] (flat_map f l)) (sym e) (IsPermutation-refl [])
    go (x ∷ xs) ys (front, back, e, r) =
        let F : List Y = flat_map f front in
        let B : List Y = flat_map f back in
        let rest : IsPermutation (flat_map f xs) (F ++ B) = subst (IsPermutation (flat_map f xs)) (flat_map-append f front back) (go xs (front ++ back) r) in
        let whole : flat_map f ys ≡ F ++ (f x ++ B) = ap (flat_map f) e ∙ flat_map-append f front (x ∷ back) in
        subst (IsPermutation (f x ++ flat_map f xs)) (sym whole)
        (IsPermutation-trans (f x ++ flat_map f xs) (f x ++ (F ++ B)) (F ++ (f x ++ B)) (IsPermutation-append_right (f x) (flat_map f xs) (F ++ B) rest) (exchange (f x) F B))

pub All-put : {X : Type 0} (P : X → Type 0) (x : X) (xs : List X) → P x → All P xs → All P (x ∷ xs)
All-put P x xs here rest zero d h = here
All-put P x xs here rest (suc k) d h = rest k d (omega arith)

pub All-nothing : {X : Type 0} (P : X → Type 0) → All P []
All-nothing P k d h = absurd (omega arith)

-- all that a filter keeps passes its test
pub All-passed : {X : Type 0} (p : X → Bool) (xs : List X) → All (λ x. p x ≡ true) (filter p xs)
All-passed p [] = All-nothing (λ x. p x ≡ true)
All-passed p (x ∷ xs) = go (p x) refl (All-passed p xs)
  where
    go : (b : Bool) → p x ≡ b → All (λ x. p x ≡ true) (filter p xs) → All (λ x. p x ≡ true) (cond b (x ∷ filter p xs) (filter p xs))
    go true e rest = All-put (λ x. p x ≡ true) x (filter p xs) e rest
    go false e rest = rest

-- a filter keeps the whole of a list of which all pass
pub filter-whole : {X : Type 0} (p : X → Bool) (xs : List X) → All (λ x. p x ≡ true) xs → filter p xs ≡ xs
filter-whole p [] h = refl
filter-whole p (x ∷ xs) h = go (p x) (All-head (λ x. p x ≡ true) x xs h) (filter-whole p xs (All-tail (λ x. p x ≡ true) x xs h))
  where
    go : (b : Bool) → b ≡ true → filter p xs ≡ xs → cond b (x ∷ filter p xs) (filter p xs) ≡ x ∷ xs
    go true e ih = ap (λ l. x ∷ l) ih
    go false e ih = cc

pub All-joined : {X : Type 0} (P : X → Type 0) (xs ys : List X) → All P xs → All P ys → All P (xs ++ ys)
All-joined P [] ys h k = k
All-joined P (x ∷ xs) ys h k = All-put P x (xs ++ ys) (All-head P x xs h) (All-joined P xs ys (All-tail P x xs h) k)
