-- The places of the references of two parts of a query, one after the other.
use Rattle.std.proofs.Common.{◌≡◌, ◌+◌, ◌<◌, ◌≤◌, ◌++◌, ◌∷◌, [], ℕ, List, length, true}
use Rattle.std.proofs.Common.{refl, sym, ◌∙◌, ap, arith, length-append}
use Rattle.std.specs.Prelude.{◌==◌}
use Rattle.std.proofs.lemmas.Bool.{and_from, and_parts}
use Rattle.catalog_core.specs.declared.query.resolved.QueryReference.{QueryReference}
use Rattle.catalog_core.specs.query.Fitting.{are_in_place}

-- the references of the second part begin where the first part's end
both_in_place
    : (place : ℕ) (xs ys : List QueryReference) → are_in_place place (xs ++ ys) ≡ true
    → (are_in_place place xs ≡ true) × (are_in_place (place + length xs) ys ≡ true)
both_in_place place [] ys e =
    (refl, ap (λ (n : ℕ). are_in_place n ys) (omega arith) ∙ e)
both_in_place place (x ∷ xs) ys e =
    let parts = and_parts (x.place == place) (are_in_place (place + 1) (xs ++ ys)) e in
    let more = both_in_place (place + 1) xs ys parts.1 in (
      and_from (x.place == place) (are_in_place (place + 1) xs) parts.0 more.0,
      ap (λ (n : ℕ). are_in_place n ys) (omega arith) ∙ more.1,
    )

one_after_other
    : (place : ℕ) (xs ys : List QueryReference) → are_in_place place xs ≡ true
    → are_in_place (place + length xs) ys ≡ true → are_in_place place (xs ++ ys) ≡ true
one_after_other place [] ys first second =
    ap (λ (n : ℕ). are_in_place n ys) (omega arith) ∙ second
one_after_other place (x ∷ xs) ys first second =
    let parts = and_parts (x.place == place) (are_in_place (place + 1) xs) first in
    and_from (x.place == place) (are_in_place (place + 1) (xs ++ ys)) parts.0
    (one_after_other (place + 1) xs ys parts.1
    (ap (λ (n : ℕ). are_in_place n ys) (omega arith) ∙ second))

-- the first part is already past the bound
pub first_past
    : (place bound : ℕ) (all xs ys : List QueryReference) → all ≡ xs ++ ys
    → (are_in_place place xs ≡ true → bound < place + length xs) → are_in_place place all ≡ true
    → bound < place + length all
first_past place bound all xs ys is past e =
    let parts = both_in_place place xs ys (ap (are_in_place place) (sym is) ∙ e) in
    let h = past parts.0 in
    omega (arith, h, ap length is, length-append xs ys)

-- the second part moves past the bound
pub second_past
    : (place next bound : ℕ) (all xs ys : List QueryReference) → all ≡ xs ++ ys
    → place + length xs ≡ next → (are_in_place next ys ≡ true → bound < next + length ys)
    → are_in_place place all ≡ true → bound < place + length all
second_past place next bound all xs ys is reached past e =
    let parts = both_in_place place xs ys (ap (are_in_place place) (sym is) ∙ e) in
    let h = past (ap (λ (n : ℕ). are_in_place n ys) (sym reached) ∙ parts.1) in
    omega (arith, h, reached, ap length is, length-append xs ys)

-- both parts are in place up to the bound
pub both_within
    : (place next end bound : ℕ) (all xs ys : List QueryReference) → all ≡ xs ++ ys
    → (are_in_place place xs ≡ true) × (place + length xs ≡ next) × (next ≤ bound)
    → (are_in_place next ys ≡ true) × (next + length ys ≡ end) × (end ≤ bound)
    → (are_in_place place all ≡ true) × (place + length all ≡ end) × (end ≤ bound)
both_within place next end bound all xs ys is (first, reached, low) (second, ended, high) = (
  ap (are_in_place place) is
      ∙ one_after_other place xs ys first
      (ap (λ (n : ℕ). are_in_place n ys) reached ∙ second),
  omega (arith, reached, ended, ap length is, length-append xs ys),
  high,
)
