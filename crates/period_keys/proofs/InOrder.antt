-- Periods in the order of their starts: one more at its place, and one less.
use Rattle.std.proofs.Common.{◌≡◌, ◌≤ℤ◌, ◌<ℤ◌, ◌<◌, ◌≤◌, ◌+◌, ◌-◌, ◌++◌, ◌∷◌, [], ◌∙◌, ℕ, ℤ, List, None, Option, Some, true, drop, length, length-drop, get_or, min, sym, take, ap, subst, inl, inr, arith}
use Rattle.std.specs.List.{Contains, insert}
use Rattle.std.specs.Option.{MatchOption, is_some}
use Rattle.std.specs.List.Sorted.{IsPermutation}
use Rattle.std.proofs.lemmas.Int.{ints, by_lt_z}
use Rattle.std.proofs.lemmas.Bool.{cases_lt}
use Rattle.std.proofs.lemmas.List.{get_or-drop, get_or-take, get_or_default, length-take}
use Rattle.std.proofs.lemmas.List.Edits.{get_or-insert_below, get_or-insert_at, get_or-insert_above, length-insert}
use Rattle.std.proofs.lemmas.List.Sorted.{IsPermutation-insert, IsPermutation-sym, IsPermutation-trans, IsPermutation-append_comm}
use Rattle.period_core.specs.declared.period.Period.{Period}
use Rattle.period_keys.specs.Ordered.{AreInOrder}

-- the place that an element of the longer list has in the shorter one, if it has one
data Was : (i k : ℕ) → Type 0 where
  Before : (i k : ℕ) → k < i → Was i k
  New : (i k : ℕ) → k ≡ i → Was i k
  After : (i k j : ℕ) → k ≡ j + 1 → i ≤ j → Was i k

was : (i k : ℕ) → Was i k
was i k = elim (cases_lt k i) [
  | inl less ↦ Before i k less
  | inr ge ↦ elim (cases_lt i k) [
    | inl more ↦ After i k (k - 1) (omega arith) (omega arith)
    | inr le ↦ New i k (omega arith)
  ]
]

-- a period inserted after all that start by its start leaves the list in order
pub insert_in_order :
    (xs : List Period) (i : ℕ) (x : Period) → i ≤ length xs → AreInOrder xs
    → ((k : ℕ) (d : Period) → k < i → (get_or xs k d).start ≤ℤ x.start)
    → ((k : ℕ) (d : Period) → i ≤ k → k < length xs → x.start <ℤ (get_or xs k d).start)
    → AreInOrder (insert xs i x)
insert_in_order xs i x inside order before after = λ j k d lt below.
    let size : length (insert xs i x) ≡ length xs + 1 = length-insert xs i x inside in
    go j k d lt (omega arith) (was i j) (was i k)
  where
    at_new : (d : Period) (k : ℕ) → k ≡ i → get_or (insert xs i x) k d ≡ x
    at_new d k e = ap (λ n. get_or (insert xs i x) n d) e ∙ get_or-insert_at xs i x d inside

    at_after : (d : Period) (k j : ℕ) → k ≡ j + 1 → i ≤ j → get_or (insert xs i x) k d ≡ get_or xs j d
    at_after d k j e from = ap (λ n. get_or (insert xs i x) n d) e ∙ get_or-insert_above xs i x d j from inside

    Fits : Period → Period → Type 0
    Fits a b = a.start ≤ℤ b.start

    both : (a b c e : Period) → a ≡ c → b ≡ e → Fits c e → Fits a b
    both a b c e p q h = subst (λ z. Fits z b) (sym p) (subst (Fits c) (sym q) h)

    less : (a b : Period) → a.start <ℤ b.start → Fits a b
    less a b h = omega (arith, ints)

    go : (j k : ℕ) (d : Period) → j < k → k < length xs + 1 → Was i j → Was i k → Fits (get_or (insert xs i x) j d) (get_or (insert xs i x) k d)
    go j k d lt below (Before _ _ p) (Before _ _ q) = both _ _ _ _ (get_or-insert_below xs i x d j p inside) (get_or-insert_below xs i x d k q inside) (order j k d lt (omega arith))
    go j k d lt below (Before _ _ p) (New _ _ q) = both _ _ _ _ (get_or-insert_below xs i x d j p inside) (at_new d k q) (before j d p)
    go j k d lt below (Before _ _ p) (After _ _ m q from) = both _ _ _ _ (get_or-insert_below xs i x d j p inside) (at_after d k m q from) (order j m d (omega arith) (omega arith))
    go j k d lt below (New _ _ p) (Before _ _ q) = absurd (omega arith)
    go j k d lt below (New _ _ p) (New _ _ q) = absurd (omega arith)
    go j k d lt below (New _ _ p) (After _ _ m q from) = both _ _ _ _ (at_new d j p) (at_after d k m q from) (less x (get_or xs m d) (after m d from (omega arith)))
    go j k d lt below (After _ _ n p up) (Before _ _ q) = absurd (omega arith)
    go j k d lt below (After _ _ n p up) (New _ _ q) = absurd (omega arith)
    go j k d lt below (After _ _ n p up) (After _ _ m q from) = both _ _ _ _ (at_after d j n p up) (at_after d k m q from) (order n m d (omega arith) (omega arith))

-- an insertion adds its element to the elements of the list
pub inserted : {X : Type 0} (xs : List X) (i : ℕ) (x : X) → IsPermutation (insert xs i x) (xs ++ x ∷ [])
inserted xs i x =
    IsPermutation-trans (insert xs i x) (x ∷ xs) (xs ++ x ∷ [])
    (IsPermutation-sym (x ∷ xs) (insert xs i x) (IsPermutation-insert xs i x)) (IsPermutation-append_comm (x ∷ []) xs)

-- a step of a search: if a period starts by the day, so do all before it
pub by_start :
    (xs : List Period) (m : ℕ) (x : Period) (day : ℤ) → AreInOrder xs → m < length xs → x ≡ get_or xs m x → x.start ≤ℤ day
    → (k : ℕ) (d : Period) → k < m + 1 → (get_or xs k d).start ≤ℤ day
by_start xs m x day order below is le k d lt =
    let at : get_or xs m d ≡ x = get_or_default xs m d x below ∙ sym is in
    let same : (get_or xs m d).start ≡ x.start = ap (λ (p : Period). p.start) at in
    elim (cases_lt k m) [
      | inl less ↦ let upto : (get_or xs k d).start ≤ℤ (get_or xs m d).start = order k m d less below in omega (arith, ints)
      | inr ge ↦ let here : k ≡ m = omega arith in let also : (get_or xs k d).start ≡ (get_or xs m d).start = ap (λ n. (get_or xs n d).start) here in omega (arith, ints)
    ]

-- in a list in order, the elements after one that starts later than a day start later too
pub from_start :
    (xs : List Period) (m : ℕ) (x : Period) (day : ℤ) → AreInOrder xs → m < length xs → x ≡ get_or xs m x → day <ℤ x.start
    → (k : ℕ) (d : Period) → m ≤ k → k < length xs → day <ℤ (get_or xs k d).start
from_start xs m x day order below is later k d ge inside =
    let at : get_or xs m d ≡ x = get_or_default xs m d x below ∙ sym is in
    let same : (get_or xs m d).start ≡ x.start = ap (λ (p : Period). p.start) at in
    elim (cases_lt m k) [
      | inl less ↦ let upto : (get_or xs m d).start ≤ℤ (get_or xs k d).start = order m k d less inside in omega (arith, ints)
      | inr le ↦ let here : m ≡ k = omega arith in let also : (get_or xs m d).start ≡ (get_or xs k d).start = ap (λ n. (get_or xs n d).start) here in omega (arith, ints)
    ]

-- a period that does not start by the day starts later
pub later_start : (start day : ℤ) → (start ≤ℤ day → ⊥) → day <ℤ start
later_start start day apart = by_lt_z {P = day <ℤ start} day start (λ less. less) (λ ge. absurd (apart ge))

-- ---- the place of a period in the first part of a list, or in the rest

abbrev IsPlaceIn : List Period → Period → ℕ → Type 0
IsPlaceIn xs x place = (place < length xs) × (get_or xs place x ≡ x)

pub found_early : (xs early : List Period) (n : ℕ) (x : Period) (found : Option ℕ) → early ≡ take n xs → true ≡ is_some found
    → MatchOption found (Contains early x → ⊥) (IsPlaceIn early x) → MatchOption found (Contains xs x → ⊥) (IsPlaceIn xs x)
found_early xs early n x None is some at = cc
found_early xs early n x (Some place) is some at =
    let first : IsPlaceIn (take n xs) x place = subst (λ ys. IsPlaceIn ys x place) is at in
    let size : length (take n xs) ≡ min n (length xs) = length-take n xs in
    (omega (arith, size, first.0), sym (get_or-take n xs place x (omega (arith, size, first.0))) ∙ first.1)

pub found_late : (xs late : List Period) (n place : ℕ) (x : Period) → late ≡ drop n xs → IsPlaceIn late x place → IsPlaceIn xs x (n + place)
found_late xs late n place x is at =
    let rest : IsPlaceIn (drop n xs) x place = subst (λ ys. IsPlaceIn ys x place) is at in
    let size : length (drop n xs) ≡ length xs - n = length-drop n xs in
    (omega (arith, size, rest.0), sym (get_or-drop n xs place x) ∙ rest.1)
