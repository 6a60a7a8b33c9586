-- Rows in order around one of them, and what an edit or a look-up does on either side of it.
use Rattle.std.proofs.Common.{◌≡◌, Bool, true, false, not, List, [], ◌∷◌, ◌++◌, refl, sym, ap, ◌∙◌, subst, Ordering, Less, Equal, Greater, is_lt, is_gt, is_eq, true≢false}
use Rattle.std.specs.List.{AllByRecursion}
use Rattle.std.proofs.lemmas.List.{append-nil}
use Rattle.std.proofs.lemmas.List.Elements.{filter-append}
use Rattle.sqlite_value.specs.Order.{Row}
use Rattle.sqlite_trees.specs.Tree.{IsAscending}
use Rattle.sqlite_trees.proofs.ListLemmas.{all_weaker, filter_all, filter_none}
use Rattle.ordered_rows.specs.Edits.{IsAt, IsCut, without}

-- an ascending list, seen from one of its elements
pub record IsAround {A : Type 0} (R : A → A → Type 0) (xs : List A) (x : A) (ys : List A) : Type 0 where
  pub before : AllByRecursion (λ y. R y x) xs
  pub after : AllByRecursion (R x) ys
  pub lower : IsAscending R xs
  pub upper : IsAscending R ys

all_front : {A : Type 0} (P : A → Type 0) (xs ys : List A) → AllByRecursion P (xs ++ ys) → AllByRecursion P xs
all_front P [] ys h = tt
all_front P (x ∷ xs) ys h = (h.0, all_front P xs ys h.1)

all_middle : {A : Type 0} (P : A → Type 0) (xs : List A) (y : A) (ys : List A) → AllByRecursion P (xs ++ y ∷ ys) → P y
all_middle P [] y ys h = h.0
all_middle P (x ∷ xs) y ys h = all_middle P xs y ys h.1

pub around : {A : Type 0} (R : A → A → Type 0) (xs : List A) (x : A) (ys : List A) → IsAscending R (xs ++ x ∷ ys) → IsAround R xs x ys
around R [] x ys up = record { before = tt; after = up.0; lower = tt; upper = up.1 }
around R (y ∷ xs) x ys up =
    let more = around R xs x ys up.1 in
    record { before = (all_middle (R y) xs x ys up.0, more.before); after = more.after; lower = (all_front (R y) xs _ up.0, more.lower); upper = more.upper }

module _ (side : Row → Ordering) where
  abbrev pub Below : Row → Type 0
  Below x = side x ≡ Less

  abbrev pub Above : Row → Type 0
  Above x = side x ≡ Greater

  not_above : (x r : Row) → is_gt (side r) ≡ false → (is_lt (side x) ≡ false → side r ≡ Greater) → side x ≡ Less
  not_above x r low h = go (side x) refl h
    where
      go : (o : Ordering) → side x ≡ o → (is_lt o ≡ false → side r ≡ Greater) → o ≡ Less
      go Less e h = refl
      go Equal e h = absurd (true≢false (sym (ap is_gt (h refl)) ∙ low))
      go Greater e h = absurd (true≢false (sym (ap is_gt (h refl)) ∙ low))

  pub all_below : (xs : List Row) (r : Row) (ys : List Row) → IsCut side (xs ++ r ∷ ys) → is_gt (side r) ≡ false → AllByRecursion Below xs
  all_below xs r ys up low = all_weaker _ Below (λ x h. not_above x r low h) xs (around _ xs r ys up).before

  pub all_above : (xs : List Row) (r : Row) (ys : List Row) → IsCut side (xs ++ r ∷ ys) → is_lt (side r) ≡ false → AllByRecursion Above ys
  all_above xs r ys up high = all_weaker _ Above (λ y h. h high) ys (around _ xs r ys up).after

  others : (zs : List Row) → AllByRecursion (λ x. is_eq (side x) ≡ false) zs → without side zs ≡ zs
  others zs h = filter_all _ zs (all_weaker _ (λ x. not (is_eq (side x)) ≡ true) (λ x e. ap not e) zs h)

  -- the rows in order, seen from one of them
  module _ (rows xs : List Row) (r : Row) (ys : List Row) (is : rows ≡ xs ++ r ∷ ys) (cut : IsCut side rows) where
    up : IsCut side (xs ++ r ∷ ys)
    up = subst (IsCut side) is cut

    pub cut_lower : IsCut side xs
    cut_lower = (around _ xs r ys up).lower

    pub cut_upper : IsCut side ys
    cut_upper = (around _ xs r ys up).upper

    none_lower : is_gt (side r) ≡ false → AllByRecursion (λ x. is_eq (side x) ≡ false) xs
    none_lower low = all_weaker Below (λ x. is_eq (side x) ≡ false) (λ x h. ap is_eq h) xs (all_below xs r ys up low)

    none_upper : is_lt (side r) ≡ false → AllByRecursion (λ x. is_eq (side x) ≡ false) ys
    none_upper high = all_weaker Above (λ x. is_eq (side x) ≡ false) (λ x h. ap is_eq h) ys (all_above xs r ys up high)

    pub at_upper : (row : Row) (found : Bool) → side r ≡ Less → IsAt side ys row found → IsAt side rows row found
    at_upper row found here h = rw (is, filter-append, here, filter_none _ xs (none_lower (ap is_gt here))) h

    pub at_lower : (row : Row) (found : Bool) → side r ≡ Greater → IsAt side xs row found → IsAt side rows row found
    at_lower row found here h = rw (is, filter-append, here, filter_none _ ys (none_upper (ap is_lt here)), append-nil) h

    pub at_here : (row : Row) → side r ≡ Equal → row ≡ r → IsAt side rows row true
    at_here row here same = rw (is, filter-append, here, filter_none _ xs (none_lower (ap is_gt here)), filter_none _ ys (none_upper (ap is_lt here)), same)
