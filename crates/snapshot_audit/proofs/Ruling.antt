-- The first values of a combined row decide the value at a position, and an equality.
use Rattle.std.proofs.Common.{◌≡◌, ◌<◌, ◌≤◌, ◌-◌, ◌+◌, ℕ, zero, suc, false, List, [], ◌∷◌, ◌++◌, Option, Some, length, get_or, refl, sym, ◌∙◌, ap, ap₂, arith, length-append}
use Rattle.std.specs.Prelude.{slice_get}
use Rattle.std.specs.Ordering.{is_eq}
use Rattle.std.proofs.lemmas.Option.{slice_get-get_or}
use Rattle.period_core.specs.Order.{value_cmp}
use Rattle.period_core.specs.declared.value.Value.{Value}
use Rattle.sql_statements.specs.declared.statement.Comparison.TheVariants.{Equal}
use Rattle.catalog_core.specs.Conditions.{compared}

pub slice_get-left : (xs ys : List Value) (p : ℕ) → p < length xs → slice_get (xs ++ ys) p ≡ slice_get xs p
slice_get-left [] ys p h = absurd (omega arith)
slice_get-left (x ∷ xs) ys zero h = refl
slice_get-left (x ∷ xs) ys (suc p) h = slice_get-left xs ys p (omega arith)

pub slice_get-right : (xs ys : List Value) (p q : ℕ) → length xs ≤ p → q ≡ p - length xs → slice_get (xs ++ ys) p ≡ slice_get ys q
slice_get-right [] ys p q h e = ap (slice_get ys) (omega arith)
slice_get-right (x ∷ xs) ys zero q h e = absurd (omega arith)
slice_get-right (x ∷ xs) ys (suc p) q h e = slice_get-right xs ys p q (omega arith) (omega arith)

-- the value at a position of the first row
pub in_front :
    (front next rest : List Value) (p : ℕ) (value : Value) → p < length front → value ≡ get_or front p value
    → slice_get ((front ++ next) ++ rest) p ≡ Some value
in_front front next rest p value inside is =
    let n : length (front ++ next) ≡ length front + length next = length-append front next in
    slice_get-left (front ++ next) rest p (omega arith)
    ∙ slice_get-left front next p inside
    ∙ slice_get-get_or front p value inside
    ∙ ap Some (sym is)

-- the value at a position of the second row
pub in_next :
    (front next rest : List Value) (p q : ℕ) (value : Value) → length front ≤ p → q ≡ p - length front → q < length next
    → value ≡ get_or next q value → slice_get ((front ++ next) ++ rest) p ≡ Some value
in_next front next rest p q value past is inside at =
    let n : length (front ++ next) ≡ length front + length next = length-append front next in
    slice_get-left (front ++ next) rest p (omega arith)
    ∙ slice_get-right front next p q past is
    ∙ slice_get-get_or next q value inside
    ∙ ap Some (sym at)

-- an equality of two values that are not the same
pub compared_other :
    (left right : Option Value) (a b : Value) → left ≡ Some a → right ≡ Some b → is_eq (value_cmp a b) ≡ false
    → compared Equal left right ≡ false
compared_other left right a b l r other = ap₂ (compared Equal) l r ∙ other
