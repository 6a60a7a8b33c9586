-- The row that a seek finds, on either side of a row.
use Rattle.std.proofs.Common.{◌≡◌, ◌≤◌, ◌+◌, ℕ, suc, true, false, cond, List, [], ◌∷◌, ◌++◌, drop, take, length, refl, sym, ap, ◌∙◌, subst, true≢false, is_lt, is_gt}
use Rattle.std.specs.List.{AllByRecursion}
use Rattle.sqlite_value.specs.declared.keys.Order.{Order}
use Rattle.sqlite_value.specs.Order.{Row}
use Rattle.sqlite_value.specs.Keys.{prefix_cmp}
use Rattle.sqlite_trees.specs.Tree.{from_key, up_to_key}
use Rattle.sqlite_trees.proofs.ListLemmas.{all_weaker}
use Rattle.sqlite_trees.proofs.TreeLemmas.{not_true}
use Rattle.ordered_rows.specs.Seeks.{IsSeekable}
use Rattle.ordered_rows.proofs.Cuts.{IsAround, around}
use Rattle.ordered_rows.proofs.Numbers.{drop_left, drop_right, take_left, take_right}

module _ (rows xs : List Row) (r : Row) (ys : List Row) (is : rows ≡ xs ++ r ∷ ys) (o : Order) (key : Row) (up : IsSeekable o key rows) where
  sides : IsAround (λ a b. (is_lt (prefix_cmp o b key) ≡ true → is_lt (prefix_cmp o a key) ≡ true) × (is_gt (prefix_cmp o a key) ≡ true → is_gt (prefix_cmp o b key) ≡ true)) xs r ys
  sides = around _ xs r ys (subst (IsSeekable o key) is up)

  pub seekable_lower : IsSeekable o key xs
  seekable_lower = sides.lower

  pub seekable_upper : IsSeekable o key ys
  seekable_upper = sides.upper

  from_upper : (zs : List Row) → AllByRecursion (λ x. is_lt (prefix_cmp o x key) ≡ true) zs → is_lt (prefix_cmp o r key) ≡ true
      → from_key o key (zs ++ r ∷ ys) ≡ from_key o key ys
  from_upper [] all here = rw here refl
  from_upper (x ∷ zs) all here = rw all.0 (from_upper zs all.1 here)

  -- the row is below the key
  pub from_right : (at k : ℕ) → is_lt (prefix_cmp o r key) ≡ true → at ≡ length xs + suc k → from_key o key ys ≡ drop k ys → from_key o key rows ≡ drop at rows
  from_right at k here past h =
      let all = all_weaker _ (λ x. is_lt (prefix_cmp o x key) ≡ true) (λ x h. h.0 here) xs sides.before in
      ap (from_key o key) is ∙ from_upper xs all here ∙ h ∙ sym (drop_right rows xs r ys is at k past)

  from_lower : (zs : List Row) → is_lt (prefix_cmp o r key) ≡ false → from_key o key (zs ++ r ∷ ys) ≡ from_key o key zs ++ r ∷ ys
  from_lower [] here = rw here refl
  from_lower (x ∷ zs) here =
      elim (is_lt (prefix_cmp o x key)) as (λ b. cond b (from_key o key (zs ++ r ∷ ys)) (x ∷ (zs ++ r ∷ ys)) ≡ cond b (from_key o key zs) (x ∷ zs) ++ r ∷ ys)
      [ true ↦ from_lower zs here | false ↦ refl ]

  -- the row is not below the key
  pub from_left : (at : ℕ) → is_lt (prefix_cmp o r key) ≡ false → at ≤ length xs → from_key o key xs ≡ drop at xs → from_key o key rows ≡ drop at rows
  from_left at here low h =
      ap (from_key o key) is ∙ from_lower xs here ∙ ap (λ l. l ++ r ∷ ys) h ∙ sym (drop_left rows xs r ys is at low)

  up_to_lower : (zs : List Row) → is_gt (prefix_cmp o r key) ≡ true → up_to_key o key (zs ++ r ∷ ys) ≡ up_to_key o key zs
  up_to_lower [] here = rw here refl
  up_to_lower (x ∷ zs) here = ap (λ l. cond (is_gt (prefix_cmp o x key)) [] (x ∷ l)) (up_to_lower zs here)

  -- the row is above the key
  pub up_to_left : (at : ℕ) → is_gt (prefix_cmp o r key) ≡ true → at ≤ length xs → up_to_key o key xs ≡ take at xs → up_to_key o key rows ≡ take at rows
  up_to_left at here low h =
      ap (up_to_key o key) is ∙ up_to_lower xs here ∙ h ∙ sym (take_left rows xs r ys is at low)

  up_to_upper : (zs : List Row) → AllByRecursion (λ x. is_gt (prefix_cmp o x key) ≡ false) zs → is_gt (prefix_cmp o r key) ≡ false
      → up_to_key o key (zs ++ r ∷ ys) ≡ zs ++ r ∷ up_to_key o key ys
  up_to_upper [] all here = rw here refl
  up_to_upper (x ∷ zs) all here = rw all.0 (ap (λ l. x ∷ l) (up_to_upper zs all.1 here))

  -- the row is not above the key
  pub up_to_right : (at k : ℕ) → is_gt (prefix_cmp o r key) ≡ false → at ≡ length xs + suc k → up_to_key o key ys ≡ take k ys → up_to_key o key rows ≡ take at rows
  up_to_right at k here past h =
      let all = all_weaker _ (λ x. is_gt (prefix_cmp o x key) ≡ false) (λ x h. not_true _ (λ over. true≢false (sym (h.1 over) ∙ here))) xs sides.before in
      ap (up_to_key o key) is ∙ up_to_upper xs all here ∙ ap (λ l. xs ++ r ∷ l) h ∙ sym (take_right rows xs r ys is at k past)
