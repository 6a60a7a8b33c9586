-- Tables and indexes are in the orders that edits and seeks go by, and what their edits are.
use Rattle.std.proofs.Common.{◌≡◌, true, false, ℤ, List, [], ◌∷◌, refl, sym, ap, ◌∙◌, Ordering, Less, Equal, Greater, is_lt, true≢false}
use Rattle.std.specs.Cmp.{IsTotalOrder}
use Rattle.std.specs.Ordering.{match_ordering, ordering_reverse}
use Rattle.sqlite_value.specs.declared.value.Value.{Value}
use Rattle.sqlite_value.specs.declared.value.Value.TheVariants.{Int}
use Rattle.sqlite_value.specs.declared.keys.Order.{Order}
use Rattle.sqlite_value.specs.Order.{Row, value_cmp}
use Rattle.sqlite_value.specs.Keys.{entry_cmp}
use Rattle.sqlite_value.proofs.KeyLemmas.{entry_cmp_total}
use Rattle.sqlite_value.proofs.OrderLemmas.{value_cmp_total}
use Rattle.sqlite_trees.specs.declared.store.Shape.{Shape}
use Rattle.sqlite_trees.specs.Tree.{IsIndex, IsTable, insert_entry, order_of, put_row, remove_entry, rowid, without_rowid}
use Rattle.sqlite_trees.specs.View.{IsShaped}
use Rattle.sqlite_trees.proofs.ListLemmas.{ascending_weaker}
use Rattle.sqlite_trees.proofs.TreeLemmas.{AtMost, above, prefix_cmp_follows, sorted_shape}
use Rattle.ordered_rows.specs.declared.target.Target.TheVariants.{Rowid}
use Rattle.ordered_rows.specs.Targets.{side}
use Rattle.ordered_rows.specs.Edits.{IsCut, with_new, without}
use Rattle.ordered_rows.specs.Seeks.{IsSeekable}

-- if a is not below k, a key above a is above k
not_below : {K : Type 0} {R : K → K → Ordering} → IsTotalOrder R → (a b k : K) → R a b ≡ Less → is_lt (R a k) ≡ false → R b k ≡ Greater
not_below {K} {R} total a b k less h = go (R a k) refl h
  where
    go : (o : Ordering) → R a k ≡ o → is_lt o ≡ false → R b k ≡ Greater
    go Less e h = absurd (true≢false h)
    go Equal e h = total.antisymm b k ∙ ap ordering_reverse (sym (total.congr a k b e) ∙ less)
    go Greater e h = total.antisymm b k ∙ ap ordering_reverse (total.trans k a b (above total a k e) less)

pub table_cut : (id : Value) (rows : List Row) → IsTable rows → IsCut (λ r. value_cmp (rowid r) id) rows
table_cut id = ascending_weaker _ _ (λ a b. not_below value_cmp_total (rowid a) (rowid b) id)

pub index_cut : (o : Order) (entry : Row) (rows : List Row) → IsIndex o rows → IsCut (λ r. entry_cmp o r entry) rows
index_cut o entry = ascending_weaker _ _ (λ a b. not_below (entry_cmp_total o) a b entry)

pub shape_seekable : (shape : Shape) (key : Row) (rows : List Row) → IsShaped shape rows → IsSeekable (order_of shape) key rows
shape_seekable shape key rows h = ascending_weaker (AtMost (order_of shape)) _ (λ a b. prefix_cmp_follows (order_of shape) key a b) rows (sorted_shape shape rows h)

pub put_row-with_new : (new : Row) (rows : List Row) → put_row new rows ≡ with_new (λ r. value_cmp (rowid r) (rowid new)) true new rows
put_row-with_new new [] = refl
put_row-with_new new (r ∷ rows) = ap (λ l. match_ordering (value_cmp (rowid r) (rowid new)) (r ∷ l) (new ∷ rows) (new ∷ r ∷ rows)) (put_row-with_new new rows)

pub insert_entry-with_new : (o : Order) (new : Row) (rows : List Row) → insert_entry o new rows ≡ with_new (λ r. entry_cmp o r new) false new rows
insert_entry-with_new o new [] = refl
insert_entry-with_new o new (r ∷ rows) = ap (λ l. match_ordering (entry_cmp o r new) (r ∷ l) (r ∷ rows) (new ∷ r ∷ rows)) (insert_entry-with_new o new rows)

pub row_put : {made : List Row} (rows : List Row) (row : Row) (id : ℤ) → Int id ≡ rowid row → made ≡ with_new (side (Rowid id)) true row rows → made ≡ put_row row rows
row_put rows row id same is = is ∙ (λ i. with_new (λ r. value_cmp (rowid r) (same i)) true row rows) ∙ sym (put_row-with_new row rows)

pub rowid_removed : {made : List Row} (rows : List Row) (id same_id : ℤ) → same_id ≡ id → made ≡ without (side (Rowid same_id)) rows → made ≡ without_rowid id rows
rowid_removed rows id same_id same is = is ∙ (λ i. without_rowid (same i) rows)

-- an entry, and the entry that replaces it in a comparison
module _ {made : List Row} (rows : List Row) (o same_o : Order) (entry same_entry : Row) (order_is : same_o ≡ o) (entry_is : same_entry ≡ entry) where
  pub entry_inserted : made ≡ with_new (λ r. entry_cmp same_o r same_entry) false entry rows → made ≡ insert_entry o entry rows
  entry_inserted is = is ∙ (λ i. with_new (λ r. entry_cmp (order_is i) r (entry_is i)) false entry rows) ∙ sym (insert_entry-with_new o entry rows)

  pub entry_removed : made ≡ without (λ r. entry_cmp same_o r same_entry) rows → made ≡ remove_entry o entry rows
  entry_removed is = is ∙ (λ i. remove_entry (order_is i) (entry_is i) rows)
