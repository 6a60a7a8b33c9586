-- The place of a named column among those that rows have a value for.
use Rattle.std.proofs.Common.{◌≡◌, ◌<◌, ◌≤◌, ◌+◌, ◌∷◌, ◌==◌, ◌∙◌, ℕ, zero, suc, Bool, true, false, not, List, [], Option, None, Some, cond, arith, drop, drop-cons, filter, get_or, length, nat_lt, refl, sym, ap}
use Rattle.std.specs.List.{list_any, position, position_or_len}
use Rattle.std.specs.Option.{option_map}
use Rattle.std.proofs.lemmas.Bool.{false≢true}
use Rattle.std.proofs.lemmas.Bool.Decides.{nat_tests}
use Rattle.catalog_core.proofs.lemmas.table.Positions.{none_passes}
use Rattle.catalog_core.specs.table.Matches.{is_matching}
use Rattle.catalog_core.specs.declared.table.match_counts.MatchCount.TheVariants.{Zero}

-- the place among the elements that are left to be searched
abbrev pub place_from : {X : Type 0} → (X → Bool) → (X → Bool) → ℕ → List X → Option ℕ
place_from p q n xs = option_map (λ k. n + k) (position p (filter q xs))

pub position_first : {X : Type 0} (p : X → Bool) (x : X) (xs : List X) → p x ≡ true → position p (x ∷ xs) ≡ Some 0
position_first p x xs passing =
    let here : position_or_len p (x ∷ xs) ≡ 0 = rw passing refl in
    let inside : nat_lt 0 (suc (length xs)) ≡ true = grind (arith, nat_tests) in
    rw (passing, inside) refl

position_next : {X : Type 0} (n : ℕ) (p : X → Bool) (x : X) (xs : List X) → p x ≡ false → option_map (λ k. n + k) (position p (x ∷ xs)) ≡ option_map (λ k. (n + 1) + k) (position p xs)
position_next n p x xs failing =
    let m : ℕ = position_or_len p xs in
    let here : position_or_len p (x ∷ xs) ≡ 1 + m = rw failing refl in
    let same : nat_lt (1 + m) (suc (length xs)) ≡ nat_lt m (length xs) = grind (arith, nat_tests) in
    let sum : n + (1 + m) ≡ (n + 1) + m = omega arith in
    ap (λ k. option_map (λ j. n + j) (cond (nat_lt k (suc (length xs))) (Some k) None)) here
    ∙ ap (λ b. option_map (λ j. n + j) (cond b (Some (1 + m)) None)) same
    ∙ by (nat_lt m (length xs)) sum
  where
    by : (b : Bool) → n + (1 + position_or_len p xs) ≡ (n + 1) + position_or_len p xs
        → option_map (λ j. n + j) (cond b (Some (1 + position_or_len p xs)) None) ≡ option_map (λ j. (n + 1) + j) (cond b (Some (position_or_len p xs)) None)
    by true sum = ap (λ (k : ℕ). Some k) sum
    by false sum = refl

pub drop_at : {X : Type 0} (xs : List X) (i : ℕ) (x : X) → i < length xs → x ≡ get_or xs i x → drop i xs ≡ x ∷ drop (i + 1) xs
drop_at xs i x here item =
    let next : suc i ≡ i + 1 = omega arith in
    drop-cons xs i x here ∙ ap (λ y. y ∷ drop (suc i) xs) (sym item) ∙ ap (λ n. x ∷ drop n xs) next

-- the column in hand is named
pub place_found : {X : Type 0} (p q : X → Bool) (xs : List X) (i : ℕ) (x : X) (n : ℕ) (whole : Option ℕ) → i < length xs → x ≡ get_or xs i x → q x ≡ true → p x ≡ true
    → whole ≡ place_from p q n (drop i xs) → Some n ≡ whole
place_found {X} p q xs i x n whole here item value named so_far =
    let sum : n + 0 ≡ n = omega arith in
    sym (so_far ∙ ap (place_from p q n) (drop_at xs i x here item)
    ∙ ap (λ b. option_map (λ k. n + k) (position p (cond b (x ∷ filter q (drop (i + 1) xs)) (filter q (drop (i + 1) xs))))) value
    ∙ ap (option_map (λ k. n + k)) (position_first p x (filter q (drop (i + 1) xs)) named)
    ∙ ap (λ (k : ℕ). Some k) sum)

-- the place of a value column after one more element with a value
pub place_more : {X : Type 0} (p q : X → Bool) (xs : List X) (i : ℕ) (x : X) (n : ℕ) (whole : Option ℕ) → i < length xs → x ≡ get_or xs i x → q x ≡ true → p x ≡ false
    → whole ≡ place_from p q n (drop i xs) → whole ≡ place_from p q (n + 1) (drop (i + 1) xs)
place_more p q xs i x n whole here item value other so_far =
    so_far ∙ ap (place_from p q n) (drop_at xs i x here item)
    ∙ ap (λ b. option_map (λ k. n + k) (position p (cond b (x ∷ filter q (drop (i + 1) xs)) (filter q (drop (i + 1) xs))))) value
    ∙ position_next n p x (filter q (drop (i + 1) xs)) other

-- the place of a value column after one more element without a value
pub place_passed : {X : Type 0} (p q : X → Bool) (xs : List X) (i : ℕ) (x : X) (n : ℕ) (whole : Option ℕ) → i < length xs → x ≡ get_or xs i x → q x ≡ false
    → whole ≡ place_from p q n (drop i xs) → whole ≡ place_from p q n (drop (i + 1) xs)
place_passed p q xs i x n whole here item none so_far =
    so_far ∙ ap (place_from p q n) (drop_at xs i x here item)
    ∙ ap (λ b. option_map (λ k. n + k) (position p (cond b (x ∷ filter q (drop (i + 1) xs)) (filter q (drop (i + 1) xs))))) none

-- the place of a value column at the beginning and at the end
pub place_begun : {X : Type 0} (p q : X → Bool) (xs : List X) → position p (filter q xs) ≡ place_from p q 0 xs
place_begun p q xs =
    by (position p (filter q xs))
  where
    by : (o : Option ℕ) → o ≡ option_map (λ k. 0 + k) o
    by None = refl
    by (Some k) = let sum : k ≡ 0 + k = omega arith in ap (λ (j : ℕ). Some j) sum

pub drop_past : {X : Type 0} (xs : List X) (i : ℕ) → length xs ≤ i → drop i xs ≡ []
drop_past [] zero done = refl
drop_past [] (suc i) done = refl
drop_past (x ∷ xs) zero done = absurd (omega (arith, done))
drop_past (x ∷ xs) (suc i) done = drop_past xs i (omega (arith, done))

pub place_none : {X : Type 0} (p q : X → Bool) (xs : List X) (i n : ℕ) (whole : Option ℕ) → length xs ≤ i → whole ≡ place_from p q n (drop i xs) → None ≡ whole
place_none p q xs i n whole done so_far = sym (so_far ∙ ap (place_from p q n) (drop_past xs i done))

-- ---- the place of a name among columns with values

kept : {X : Type 0} (p q : X → Bool) (xs : List X) → list_any (λ x. not (q x)) (filter p xs) ≡ false → length (filter p (filter q xs)) ≡ length (filter p xs)
kept p q [] none = refl
kept {X} p q (x ∷ xs) none =
    let later : list_any (λ x. not (q x)) (filter p xs) ≡ false → length (filter p (filter q xs)) ≡ length (filter p xs) = kept p q xs in
    by later (q x) (p x) refl refl none
  where
    by : (list_any (λ y. not (q y)) (filter p xs) ≡ false → length (filter p (filter q xs)) ≡ length (filter p xs)) → (v n : Bool) → q x ≡ v → p x ≡ n → list_any (λ y. not (q y)) (cond n (x ∷ filter p xs) (filter p xs)) ≡ false
        → length (filter p (cond v (x ∷ filter q xs) (filter q xs))) ≡ length (cond n (x ∷ filter p xs) (filter p xs))
    by next true true value named h = rw named (ap suc (next (let rest : list_any (λ y. not (q y)) (filter p xs) ≡ false = rw value at h in rest)))
    by next true false value named h = rw named (next h)
    by next false true value named h = absurd (false≢true (sym h ∙ (rw value refl)))
    by next false false value named h = next h

pub some_value : {X : Type 0} (p q : X → Bool) (xs : List X) → is_matching Zero (length (filter p xs)) ≡ false → list_any (λ x. not (q x)) (filter p xs) ≡ false → position p (filter q xs) ≡ None → ⊥
unfolding is_matching
some_value p q xs some values none =
    let zero : length (filter p xs) ≡ 0 = sym (kept p q xs values) ∙ none_passes p (filter q xs) none in
    false≢true (sym some ∙ ap (λ (n : ℕ). n == 0) zero)
