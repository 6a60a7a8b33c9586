-- A list in order is the same for each order of its elements.
use Rattle.std.proofs.Common.{◌≡◌, ◌∙◌, ◌∷◌, ◌+◌, suc, Bool, List, [], true, false, ap, arith, cond, get_or, refl, subst, sym, Ordering}
use Rattle.std.specs.declared.cmp.Ordering.TheVariants.{Less, Equal, Greater}
use Rattle.std.specs.List.Sorted.{IsPermutation, IsSorted}
use Rattle.std.specs.Cmp.{IsTotalOrder}
use Rattle.std.specs.FinMap.{IsAntisymmetric}
use Rattle.std.specs.Ordering.{is_lt, ordering_reverse}
use Rattle.sqlite_trees.proofs.ListLemmas.{along_permutation}
use Rattle.history_sums.specs.Sorting.{put_in, sorted_by}

module _ {X : Type 0} {cmp : X → X → Ordering} (total : IsTotalOrder cmp) (same : IsAntisymmetric cmp) where
  -- no two elements are each less than the other
  asymmetric : (x y : X) → is_lt (cmp x y) ≡ true → is_lt (cmp y x) ≡ true → ⊥
  asymmetric x y less more = go (cmp x y) (cmp y x) (total.antisymm x y) less more
    where
      go : (a b : Ordering) → a ≡ ordering_reverse b → is_lt a ≡ true → is_lt b ≡ true → ⊥
      go Less Less is p q = cc
      go Less Equal is p q = cc
      go Less Greater is p q = cc
      go Equal b is p q = cc
      go Greater b is p q = cc

  equal : (x y : X) → is_lt (cmp x y) ≡ false → is_lt (cmp y x) ≡ false → x ≡ y
  equal x y not_less not_more = same x y (go (cmp x y) (cmp y x) (total.antisymm x y) not_less not_more)
    where
      go : (a b : Ordering) → a ≡ ordering_reverse b → is_lt a ≡ false → is_lt b ≡ false → a ≡ Equal
      go Less b is p q = cc
      go Equal b is p q = refl
      go Greater Less is p q = cc
      go Greater Equal is p q = cc
      go Greater Greater is p q = cc

  less-is : (o : Ordering) → is_lt o ≡ true → o ≡ Less
  less-is Less p = refl
  less-is Equal p = cc
  less-is Greater p = cc

  less_than : (x y z : X) → is_lt (cmp x y) ≡ true → is_lt (cmp y z) ≡ true → is_lt (cmp x z) ≡ true
  less_than x y z p q = ap is_lt (total.trans x y z (less-is (cmp x y) p) (less-is (cmp y z) q))

  -- z is less than x and not less than y, so y is less than x
  before : (x y z : X) → is_lt (cmp z y) ≡ false → is_lt (cmp z x) ≡ true → is_lt (cmp y x) ≡ true
  before x y z not_less less = go (is_lt (cmp y x)) refl (is_lt (cmp x y)) refl
    where
      go : (a : Bool) → is_lt (cmp y x) ≡ a → (b : Bool) → is_lt (cmp x y) ≡ b → is_lt (cmp y x) ≡ true
      go true is b its = is
      go false is true its = let wrong : is_lt (cmp z y) ≡ true = less_than z x y less its in cc
      go false is false its = let wrong : is_lt (cmp z y) ≡ true = subst (λ e. is_lt (cmp z e) ≡ true) (equal x y its is) less in cc

  -- two elements that both come before the rest
  two : (x y : X) (zs : List X) (a b : Bool) → is_lt (cmp y x) ≡ a → is_lt (cmp x y) ≡ b → cond a (y ∷ x ∷ zs) (x ∷ y ∷ zs) ≡ cond b (x ∷ y ∷ zs) (y ∷ x ∷ zs)
  two x y zs true true p q = absurd (asymmetric y x p q)
  two x y zs true false p q = refl
  two x y zs false true p q = refl
  two x y zs false false p q = ap (λ e. e ∷ y ∷ zs) one ∙ ap (λ e. y ∷ e ∷ zs) (sym one)
    where
      one : x ≡ y
      one = equal x y q p

  -- two elements may be put in in either order
  commutes : (x y : X) (zs : List X) → put_in cmp x (put_in cmp y zs) ≡ put_in cmp y (put_in cmp x zs)
  commutes x y [] = two x y [] (is_lt (cmp y x)) (is_lt (cmp x y)) refl refl
  commutes x y (z ∷ zs) = go (is_lt (cmp z x)) refl (is_lt (cmp z y)) refl (commutes x y zs)
    where
      go : (a : Bool) → is_lt (cmp z x) ≡ a → (b : Bool) → is_lt (cmp z y) ≡ b → put_in cmp x (put_in cmp y zs) ≡ put_in cmp y (put_in cmp x zs)
          → put_in cmp x (put_in cmp y (z ∷ zs)) ≡ put_in cmp y (put_in cmp x (z ∷ zs))
      go true p true q more = rw (p, q) (rw p (ap (λ rest. z ∷ rest) more))
      go true p false q more = let less = before x y z q p in rw (p, q) (rw (less, p) refl)
      go false p true q more = let less = before y x z p q in rw (p, q) (rw (less, p) refl)
      go false p false q more = rw (p, q) (rw p (two x y (z ∷ zs) (is_lt (cmp y x)) (is_lt (cmp x y)) refl refl))

  -- lists of the same elements are one list in order
  pub same_in_order : (xs ys : List X) → IsPermutation xs ys → sorted_by cmp xs ≡ sorted_by cmp ys
  same_in_order = along_permutation (λ xs ys. sorted_by cmp xs ≡ sorted_by cmp ys) (λ xs. refl) (λ x xs ys is. ap (put_in cmp x) is) (λ x y xs. commutes x y (sorted_by cmp xs)) (λ xs ys zs is its. is ∙ its)

-- a list that is in order is so after its first element
pub in_order-tail : {X : Type 0} (cmp : X → X → Ordering) (x : X) (xs : List X) → IsSorted cmp (x ∷ xs) → IsSorted cmp xs
in_order-tail cmp x xs up k d low high =
    subst (λ n. is_lt (cmp (get_or (x ∷ xs) n d) (get_or xs k d)) ≡ false) {x = suc k + 1} {y = suc (k + 1)} (omega arith) (up (suc k) d (omega arith) (omega arith))

-- a list that is in order stays as it is
pub in_order_already : {X : Type 0} (cmp : X → X → Ordering) (xs : List X) → IsSorted cmp xs → sorted_by cmp xs ≡ xs
in_order_already cmp [] up = refl
in_order_already cmp (x ∷ []) up = refl
in_order_already cmp (x ∷ y ∷ ys) up =
    let first : is_lt (cmp y x) ≡ false = up 0 x (omega arith) (omega arith) in
    ap (put_in cmp x) (in_order_already cmp (y ∷ ys) (in_order-tail cmp x (y ∷ ys) up)) ∙ rw first refl
