-- The place of a row among rows in order.
use Rattle.std.proofs.Common.{◌≡◌, ◌+◌, ℕ, suc, Bool, true, false, not, List, [], ◌∷◌, ◌++◌, drop, take, set, length, refl, sym, ap, ◌∙◌, subst, arith, append_assoc, Ordering, Less, Equal, Greater, is_lt, is_gt, is_eq, true≢false}
use Rattle.std.specs.List.{AllByRecursion}
use Rattle.std.proofs.lemmas.List.{take_at, drop_at, set_at, length-append}
use Rattle.std.proofs.lemmas.List.Elements.{filter-append}
use Rattle.sqlite_value.specs.Order.{Row}
use Rattle.sqlite_trees.proofs.ListLemmas.{all_weaker, filter_all}
use Rattle.ordered_rows.specs.Edits.{IsCut, IsHere, IsPlaced, inserted, removed, with_new, without}
use Rattle.ordered_rows.proofs.Numbers.{removed_here}
use Rattle.ordered_rows.proofs.Cuts.{Above, Below, all_above, all_below}

all_append : {A : Type 0} (P : A → Type 0) (xs ys : List A) → AllByRecursion P xs → AllByRecursion P ys → AllByRecursion P (xs ++ ys)
all_append P [] ys h k = k
all_append P (x ∷ xs) ys h k = (h.0, all_append P xs ys h.1 k)

module _ (side : Row → Ordering) where
  -- the rows in order, seen from one of them
  module _ (rows xs : List Row) (r : Row) (ys : List Row) (is : rows ≡ xs ++ r ∷ ys) (cut : IsCut side rows) where
    up : IsCut side (xs ++ r ∷ ys)
    up = subst (IsCut side) is cut

    pub placed_upper : (k at : ℕ) (found : Bool) → side r ≡ Less → at ≡ length xs + suc k → IsPlaced side ys k found → IsPlaced side rows at found
    placed_upper k at found less past h = record {
      below = xs ++ r ∷ h.below;
      here = h.here;
      above = h.above;
      is = is ∙ ap (λ l. xs ++ r ∷ l) h.is ∙ sym (append_assoc xs (r ∷ h.below) (h.here ++ h.above));
      number = omega (arith, length-append xs (r ∷ h.below), h.number, past);
      lower = all_append _ xs _ (all_below side xs r ys up (ap is_gt less)) (less, h.lower);
      same = h.same;
      upper = h.upper;
    }

    pub placed_here : (at : ℕ) → side r ≡ Equal → length xs ≡ at → IsPlaced side rows at true
    placed_here at equal here = record {
      below = xs;
      here = r ∷ [];
      above = ys;
      is = is;
      number = here;
      lower = all_below side xs r ys up (ap is_gt equal);
      same = (refl, equal, refl);
      upper = all_above side xs r ys up (ap is_lt equal);
    }

    pub placed_lower : (at : ℕ) (found : Bool) → side r ≡ Greater → IsPlaced side xs at found → IsPlaced side rows at found
    placed_lower at found greater h = record {
      below = h.below;
      here = h.here;
      above = h.above ++ r ∷ ys;
      is = is ∙ ap (λ l. l ++ r ∷ ys) h.is ∙ append_assoc h.below (h.here ++ h.above) (r ∷ ys) ∙ ap (λ l. h.below ++ l) (append_assoc h.here h.above (r ∷ ys));
      number = h.number;
      lower = h.lower;
      same = h.same;
      upper = all_append _ h.above _ h.upper (greater, all_above side xs r ys up (ap is_lt greater));
    }

  new_under : (replaces : Bool) (new : Row) (xs ys : List Row) → AllByRecursion (Below side) xs → with_new side replaces new (xs ++ ys) ≡ xs ++ with_new side replaces new ys
  new_under replaces new [] ys low = refl
  new_under replaces new (x ∷ xs) ys low = rw low.0 (ap (λ l. x ∷ l) (new_under replaces new xs ys low.1))

  new_over : (replaces : Bool) (new : Row) (ys : List Row) → AllByRecursion (Above side) ys → with_new side replaces new ys ≡ new ∷ ys
  new_over replaces new [] high = refl
  new_over replaces new (y ∷ ys) high = rw high.0 refl

  others : (zs : List Row) → AllByRecursion (λ x. is_eq (side x) ≡ false) zs → without side zs ≡ zs
  others zs h = filter_all _ zs (all_weaker _ (λ x. not (is_eq (side x)) ≡ true) (λ x e. ap not e) zs h)

  module _ (rows : List Row) (at : ℕ) where
    pub new_inserted : (replaces : Bool) (new : Row) → IsPlaced side rows at false → inserted at new rows ≡ with_new side replaces new rows
    new_inserted replaces new h = go h.here h.is h.same
      where
        go : (here : List Row) → rows ≡ h.below ++ (here ++ h.above) → IsHere side here false → inserted at new rows ≡ with_new side replaces new rows
        go [] is same =
            (λ i. take at (is i) ++ new ∷ drop at (is i))
            ∙ (λ i. take_at h.below h.above at h.number i ++ new ∷ drop_at h.below h.above at h.number i)
            ∙ sym (ap (with_new side replaces new) is ∙ new_under replaces new h.below h.above h.lower ∙ ap (λ l. h.below ++ l) (new_over replaces new h.above h.upper))
        go (x ∷ xs) is same = absurd (true≢false (sym same.0))

    pub new_replaces : (new : Row) → IsPlaced side rows at true → set rows at new ≡ with_new side true new rows
    new_replaces new h = go h.here h.is h.same
      where
        go : (here : List Row) → rows ≡ h.below ++ (here ++ h.above) → IsHere side here true → set rows at new ≡ with_new side true new rows
        go [] is same = absurd (true≢false same)
        go (x ∷ xs) is same =
            let one : rows ≡ h.below ++ x ∷ h.above = is ∙ ap (λ l. h.below ++ x ∷ (l ++ h.above)) same.2 in
            ap (λ l. set l at new) one ∙ set_at h.below x h.above new at h.number
            ∙ sym (ap (with_new side true new) one ∙ new_under true new h.below (x ∷ h.above) h.lower ∙ rw same.1 refl)

    pub old_stays : (new : Row) → IsPlaced side rows at true → rows ≡ with_new side false new rows
    old_stays new h = go h.here h.is h.same
      where
        go : (here : List Row) → rows ≡ h.below ++ (here ++ h.above) → IsHere side here true → rows ≡ with_new side false new rows
        go [] is same = absurd (true≢false same)
        go (x ∷ xs) is same =
            let one : rows ≡ h.below ++ x ∷ h.above = is ∙ ap (λ l. h.below ++ x ∷ (l ++ h.above)) same.2 in
            one ∙ sym (ap (with_new side false new) one ∙ new_under false new h.below (x ∷ h.above) h.lower ∙ rw same.1 refl)

    none_below : (xs : List Row) → AllByRecursion (Below side) xs → without side xs ≡ xs
    none_below xs h = others xs (all_weaker (Below side) (λ x. is_eq (side x) ≡ false) (λ x e. ap is_eq e) xs h)

    none_above : (xs : List Row) → AllByRecursion (Above side) xs → without side xs ≡ xs
    none_above xs h = others xs (all_weaker (Above side) (λ x. is_eq (side x) ≡ false) (λ x e. ap is_eq e) xs h)

    pub none_removed : IsPlaced side rows at false → rows ≡ without side rows
    none_removed h = go h.here h.is h.same
      where
        go : (here : List Row) → rows ≡ h.below ++ (here ++ h.above) → IsHere side here false → rows ≡ without side rows
        go [] is same =
            is ∙ sym (ap (without side) is ∙ filter-append _ h.below h.above ∙ (λ i. none_below h.below h.lower i ++ none_above h.above h.upper i))
        go (x ∷ xs) is same = absurd (true≢false (sym same.0))

    pub one_removed : IsPlaced side rows at true → removed at rows ≡ without side rows
    one_removed h = go h.here h.is h.same
      where
        go : (here : List Row) → rows ≡ h.below ++ (here ++ h.above) → IsHere side here true → removed at rows ≡ without side rows
        go [] is same = absurd (true≢false same)
        go (x ∷ xs) is same =
            let one : rows ≡ h.below ++ x ∷ h.above = is ∙ ap (λ l. h.below ++ x ∷ (l ++ h.above)) same.2 in
            let kept : without side (x ∷ h.above) ≡ h.above = rw same.1 (none_above h.above h.upper) in
            sym (removed_here rows h.below x h.above one at h.number)
            ∙ sym (ap (without side) one ∙ filter-append _ h.below (x ∷ h.above) ∙ (λ i. none_below h.below h.lower i ++ kept i))
