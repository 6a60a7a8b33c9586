-- Tests of whether some element of a list passes, compared with one another.
use Rattle.std.proofs.Common.{◌≡◌, ◌∷◌, ◌||◌, ◌∙◌, Bool, true, false, List, [], refl, sym}
use Rattle.std.specs.List.{list_any}
use Rattle.std.proofs.lemmas.Bool.{false_from_ne_true, false≢true}

pub or_right : (b : Bool) → (b || true) ≡ true
or_right true = refl
or_right false = refl

-- no element passes a test that nothing passes
pub any_false : {X : Type 0} (xs : List X) → list_any (λ x. false) xs ≡ false
any_false [] = refl
any_false (x ∷ xs) = any_false xs

-- two tests that agree are passed by the same lists
pub any_same : {X : Type 0} (f g : X → Bool) → ((x : X) → f x ≡ g x) → (xs : List X) → list_any f xs ≡ list_any g xs
any_same f g same [] = refl
any_same f g same (x ∷ xs) = rw (same x, any_same f g same xs) refl

-- a test that follows from another
pub any_weaker : {X : Type 0} (p q : X → Bool) → ((x : X) → p x ≡ true → q x ≡ true) → (xs : List X) → list_any p xs ≡ true → list_any q xs ≡ true
any_weaker p q weaker [] some = some
any_weaker p q weaker (x ∷ xs) some =
    (elim (p x) as (λ b. p x ≡ b → (b || list_any p xs) ≡ true → (q x || list_any q xs) ≡ true) [
      | true ↦ (λ e s. rw (weaker x e) refl)
      | false ↦ (λ e s. rw (any_weaker p q weaker xs s) (or_right (q x)))
    ]) refl some

pub none_stronger : {X : Type 0} (p q : X → Bool) → ((x : X) → p x ≡ true → q x ≡ true) → (xs : List X) → list_any q xs ≡ false → list_any p xs ≡ false
none_stronger p q weaker xs none = false_from_ne_true (list_any p xs) (λ some. false≢true (sym none ∙ any_weaker p q weaker xs some))
