-- Lists of tables in memory: one of them written, one more, and with more indexes.
use Rattle.std.proofs.Common.{◌≡◌, ◌⊎◌, ◌<◌, ◌≤◌, ◌+◌, ◌-◌, ◌++◌, ◌∷◌, [], ◌∙◌, ℕ, zero, suc, List, Some, append-nil, drop, get_or, inl, inr, length, set, take, refl, sym, ap, subst, arith}
use Rattle.std.specs.List.{Contains, slice_get}
use Rattle.std.proofs.Math.Seq.{map-set_same}
use Rattle.std.proofs.lemmas.Bool.{cases_eq}
use Rattle.std.proofs.lemmas.Option.{get_or_from_slice_get, slice_get_within}
use Rattle.catalog_core.specs.table.TableWords.{table_of}
use Rattle.catalog_core.specs.declared.table.Reference.{Reference}
use Rattle.catalog_core.specs.declared.table.TableDef.{TableDef}
use Rattle.std.proofs.lemmas.List.{length-map, take_all}
use Rattle.period_keys.proofs.Loops.{none_left}
use Rattle.period_keys.specs.Current.{AreParentsIndexed, AreReferencesIndexed, HaveIndexes, HaveMoreIndexes, IsIndexed, IsIndexedAsChild, IsIndexedBy, ReferToEarlier, rows_by_key}
use Rattle.period_keys.specs.Lawful.{own_positions, parent_positions}
use Rattle.period_keys.specs.Rows.{RowsByKey}
use Rattle.period_keys.specs.TableRows.{HasMoreIndexes, TableRows}

pub value_is : {T : Type 0} (x y : T) → Some x ≡ Some y → x ≡ y
value_is x y e = cc

-- ---- a list written at one place

pub set_here : {T : Type 0} (ts : List T) (place : ℕ) (t : T) → place < length ts → slice_get (set ts place t) place ≡ Some t
set_here [] place t below = absurd (omega (arith, below))
set_here (x ∷ ts) zero t below = refl
set_here (x ∷ ts) (suc place) t below = set_here ts place t (omega (arith, below))

pub set_elsewhere : {T : Type 0} (ts : List T) (place other : ℕ) (t : T) → (other ≡ place → ⊥) → slice_get (set ts place t) other ≡ slice_get ts other
set_elsewhere [] place other t off = refl
set_elsewhere (x ∷ ts) zero zero t off = absurd (off refl)
set_elsewhere (x ∷ ts) zero (suc other) t off = refl
set_elsewhere (x ∷ ts) (suc place) zero t off = refl
set_elsewhere (x ∷ ts) (suc place) (suc other) t off = set_elsewhere ts place other t (λ same. off (ap suc same))

-- ---- one element more

-- a table of a list keeps its place when one more is added
pub more_first : {T : Type 0} (ts : List T) (t x : T) (place : ℕ) → slice_get ts place ≡ Some x → slice_get (ts ++ t ∷ []) place ≡ Some x
more_first [] t x place there = cc
more_first (y ∷ ts) t x zero there = there
more_first (y ∷ ts) t x (suc place) there = more_first ts t x place there

pub more_last : {T : Type 0} (ts : List T) (t : T) → slice_get (ts ++ t ∷ []) (length ts) ≡ Some t
more_last [] t = refl
more_last (y ∷ ts) t = more_last ts t

-- a table of a list with one more is one of the list, or the last
pub more_cases : {T : Type 0} (ts : List T) (t x : T) (place : ℕ) → slice_get (ts ++ t ∷ []) place ≡ Some x → (slice_get ts place ≡ Some x) ⊎ ((place ≡ length ts) × (x ≡ t))
more_cases [] t x zero there = inr (refl, sym (value_is t x there))
more_cases [] t x (suc place) there = cc
more_cases (y ∷ ts) t x zero there = inl there
more_cases (y ∷ ts) t x (suc place) there = elim (more_cases ts t x place there) [ inl first ↦ inl first | inr (last, is) ↦ inr (ap suc last, is) ]

-- ---- more indexes

pub has_more_refl : (table : TableRows) → HasMoreIndexes table table
has_more_refl table = record { positions = refl; rows = refl; indexed = λ positions there. there }

pub has_more_trans : (a b c : TableRows) → HasMoreIndexes a b → HasMoreIndexes b c → HasMoreIndexes a c
has_more_trans a b c first second = record {
  positions = second.positions ∙ first.positions;
  rows = second.rows ∙ first.rows;
  indexed = λ positions there. second.indexed positions (first.indexed positions there);
}

pub have_more_refl : (tables : List TableRows) → HaveMoreIndexes tables tables
have_more_refl tables = record { same = refl; indexed = λ number positions there. there }

pub have_more_trans : (a b c : List TableRows) → HaveMoreIndexes a b → HaveMoreIndexes b c → HaveMoreIndexes a c
have_more_trans a b c first second = record {
  same = second.same ∙ first.same;
  indexed = λ number positions there. second.indexed number positions (first.indexed number positions there);
}

-- an index stays if one table is written that has equal indexes or more
pub indexed_set : (tables : List TableRows) (place : ℕ) (old new : TableRows) → slice_get tables place ≡ Some old → ((positions : List ℕ) → Contains old.indexed positions → Contains new.indexed positions)
    → (number : ℕ) (positions : List ℕ) → IsIndexedBy tables number positions → IsIndexedBy (set tables place new) number positions
indexed_set tables place old new there more zero positions (table, is, has) = cc
indexed_set tables place old new there more (suc place_of) positions (table, is, has) =
    elim (cases_eq place_of place) [
      | inl same ↦
          let here : table ≡ old = value_is table old (sym is ∙ ap (slice_get tables) same ∙ there) in (
            new,
            ap (slice_get (set tables place new)) same ∙ set_here tables place new (slice_get_within tables place old there),
            more positions (subst (λ (t : TableRows). Contains t.indexed positions) here has),
          )
      | inr other ↦ (table, set_elsewhere tables place place_of new other ∙ is, has)
    ]

-- tables with more indexes, if one of them has more
pub have_more_set : (tables : List TableRows) (place : ℕ) (old new : TableRows) → slice_get tables place ≡ Some old → HasMoreIndexes old new → HaveMoreIndexes tables (set tables place new)
have_more_set tables place old new there more = record {
  same = map-set_same rows_by_key tables place new old (same_rows old new more ∙ sym (ap rows_by_key (get_or_from_slice_get tables place old old there)));
  indexed = indexed_set tables place old new there more.indexed;
} where
  same_rows : (x y : TableRows) → HasMoreIndexes x y → rows_by_key y ≡ rows_by_key x
  same_rows x y h = rw (h.positions, h.rows) refl

-- tables with more indexes, and one table more
pub have_more_last : (old tables : List TableRows) (table : TableRows) → HaveMoreIndexes old tables
    → (number : ℕ) (positions : List ℕ) → IsIndexedBy old number positions → IsIndexedBy (tables ++ table ∷ []) number positions
have_more_last old tables table more zero positions (t, is, has) = cc
have_more_last old tables table more (suc place) positions there =
    let (t, is, has) = more.indexed (suc place) positions there in (t, more_first tables table t place is, has)

-- tables with more indexes are as many as before
pub same_count : (old new : List TableRows) → HaveMoreIndexes old new → length new ≡ length old
same_count old new more = sym (length-map new rows_by_key) ∙ ap length more.same ∙ length-map old rows_by_key

-- the indexes of a reference stay
pub indexed_still : (old new : List TableRows) (number : ℕ) (child : TableDef) (reference : Reference) (parent : TableDef) → HaveMoreIndexes old new → IsIndexed old number child reference parent
    → IsIndexed new number child reference parent
indexed_still old new number child reference parent more is = record {
  children = more.indexed number (own_positions child reference) is.children;
  parents = more.indexed reference.parent (parent_positions parent reference) is.parents;
}

-- ---- all tables

pub number_inside : {T : Type 0} (tables : List T) (number : ℕ) (t : T) → table_of tables number ≡ Some t → number - 1 < length tables
number_inside tables zero t is = cc
number_inside tables (suc place) t is =
    let inside : place < length tables = slice_get_within tables place t is in
    omega (arith, inside)

-- the table of a number is at the place before it
pub table_at : {T : Type 0} (tables : List T) (number : ℕ) (table here : T) → here ≡ get_or tables (number - 1) here → table_of tables number ≡ Some table → here ≡ table
table_at tables zero table here is found = cc
table_at tables (suc place) table here is found =
    let same : suc place - 1 ≡ place = omega arith in
    is ∙ ap (λ n. get_or tables n here) same ∙ get_or_from_slice_get tables place table here found

-- a table written in its place
pub written_to : {T D : Type 0} (definitions : List D) (tables : List T) (number : ℕ) (def : D) (table : T) → table_of definitions number ≡ Some def → number - 1 < length tables
    → table_of (set tables (number - 1) table) number ≡ Some table
written_to definitions tables zero def table is below = cc
written_to definitions tables (suc place) def table is below =
    let same : suc place - 1 ≡ place = omega arith in
    subst (λ n. slice_get (set tables n table) place ≡ Some table) (sym same) (set_here tables place table (omega (arith, below)))

-- the table that was written at a place
pub written_at : (tables : List TableRows) (place : ℕ) (table : TableRows) → place < length tables → table_of (set tables place table) (place + 1) ≡ Some table
written_at tables place table below =
    let next : place + 1 ≡ suc place = omega arith in
    ap (table_of (set tables place table)) next ∙ set_here tables place table below

-- a slice of a whole vector, written over it
pub written_over : {T : Type 0} (n : ℕ) (items given new : List T) → given ≡ items → length given ≡ n → length new ≡ length given → take n (new ++ drop (length new) items) ≡ new
written_over n items given new is size same =
    let of_items : length given ≡ length items = ap length is in
    ap (λ rest. take n (new ++ rest)) (none_left items (length new) (omega (arith, same, of_items))) ∙ ap (take n) (append-nil new) ∙ take_all n new (omega (arith, same, size))

pub all_indexed : (catalog : List TableDef) (tables : List TableRows) (count : ℕ) → length catalog ≤ count
    → ((k : ℕ) (child : TableDef) → k < count → slice_get catalog k ≡ Some child → AreReferencesIndexed catalog tables (k + 1) child) → HaveIndexes catalog tables
all_indexed catalog tables count all done zero child is = cc
all_indexed catalog tables count all done (suc place) child is =
    let inside : place < length catalog = slice_get_within catalog place child is in
    let next : place + 1 ≡ suc place = omega arith in
    λ reference parent there parent_is. subst (λ (n : ℕ). IsIndexed tables n child reference parent) next (done place child (omega (arith, inside, all)) is reference parent there parent_is)

-- tables with one more, whose references are indexed
pub with_table_indexed : (catalog : List TableDef) (old tables : List TableRows) (def : TableDef) (table : TableRows) → length old ≡ length catalog → ReferToEarlier (catalog ++ def ∷ [])
    → HaveMoreIndexes old tables → AreParentsIndexed catalog def tables → IsIndexedAsChild def table → HaveIndexes catalog old → HaveIndexes (catalog ++ def ∷ []) (tables ++ table ∷ [])
with_table_indexed catalog old tables def table count earlier more parents children was zero child is reference parent there parent_is = cc
with_table_indexed catalog old tables def table count earlier more parents children was (suc place) child is reference parent there parent_is =
    elim (more_cases catalog def child place is) [
      | inl first ↦ of_old first (more_cases_of reference.parent parent_is)
      | inr (last, same) ↦ of_new last same (more_cases_of reference.parent parent_is)
    ]
  where
    lifted : (number : ℕ) (positions : List ℕ) → IsIndexedBy tables number positions → IsIndexedBy (tables ++ table ∷ []) number positions
    lifted number positions indexed = have_more_last tables tables table (have_more_refl tables) number positions indexed

    more_cases_of : (number : ℕ) → table_of (catalog ++ def ∷ []) number ≡ Some parent → (table_of catalog number ≡ Some parent) ⊎ (number ≡ suc (length catalog))
    more_cases_of zero e = cc
    more_cases_of (suc p) e = elim (more_cases catalog def parent p e) [ inl here ↦ inl here | inr (last, same) ↦ inr (ap suc last) ]

    below : reference.parent < suc place
    below = earlier (suc place) child reference parent (record { is_child = is; is_reference = there; is_parent = parent_is })

    of_old : slice_get catalog place ≡ Some child → (table_of catalog reference.parent ≡ Some parent) ⊎ (reference.parent ≡ suc (length catalog)) → IsIndexed (tables ++ table ∷ []) (suc place) child reference parent
    of_old first (inl here) =
        let still : IsIndexed tables (suc place) child reference parent = indexed_still old tables (suc place) child reference parent more (was (suc place) child first reference parent there here) in
        record { children = lifted (suc place) (own_positions child reference) still.children; parents = lifted reference.parent (parent_positions parent reference) still.parents }
    of_old first (inr last) =
        let inside : place < length catalog = slice_get_within catalog place child first in
        absurd (omega (arith, inside, last, below))

    of_new : place ≡ length catalog → child ≡ def → (table_of catalog reference.parent ≡ Some parent) ⊎ (reference.parent ≡ suc (length catalog)) → IsIndexed (tables ++ table ∷ []) (suc place) child reference parent
    of_new last same (inl here) =
        let there_new : Contains def.references reference = subst (λ (d : TableDef). Contains d.references reference) same there in
        let size : length tables ≡ place = same_count old tables more ∙ count ∙ sym last in
        record {
          children = (
            table,
            ap (slice_get (tables ++ table ∷ [])) (sym size) ∙ more_last tables table,
            subst (λ (d : TableDef). Contains table.indexed (own_positions d reference)) (sym same) (children reference there_new),
          );
          parents = lifted reference.parent (parent_positions parent reference) (parents reference there_new parent here);
        }
    of_new last same (inr self) = absurd (omega (arith, last, self, below))

-- the rows of one table changed, and its indexes with them
pub have_indexes_set : (catalog : List TableDef) (tables : List TableRows) (place : ℕ) (old new : TableRows) → slice_get tables place ≡ Some old → new.indexed ≡ old.indexed → HaveIndexes catalog tables → HaveIndexes catalog (set tables place new)
have_indexes_set catalog tables place old new there same have number child is reference parent child_has parent_is =
    let was : IsIndexed tables number child reference parent = have number child is reference parent child_has parent_is in
    let kept : (positions : List ℕ) → Contains old.indexed positions → Contains new.indexed positions = λ positions has. subst (λ (list : List (List ℕ)). Contains list positions) (sym same) has in
    record {
      children = indexed_set tables place old new there kept number (own_positions child reference) was.children;
      parents = indexed_set tables place old new there kept reference.parent (parent_positions parent reference) was.parents;
    }

-- a table with its indexes, by its rows alone
pub rows_are : (table : TableRows) (rows : RowsByKey) → table.positions ≡ rows.positions → table.rows ≡ rows.rows → rows_by_key table ≡ rows
rows_are table rows same also = rw (same, also) refl
