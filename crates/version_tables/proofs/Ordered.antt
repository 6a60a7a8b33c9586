-- Rows in the order of their rowids.
use Rattle.std.proofs.Common.{◌≡◌, ◌⊎◌, inl, inr, ℕ, zero, suc, ◌+◌, ◌<◌, ℤ, ◌<ℤ◌, pos, List, [], ◌∷◌, map, filter, length, get_or, true, false, not, refl, sym, ap, ap₂, subst, ◌∙◌, arith, Ordering, Less, Equal, Greater, true≢false}
use Rattle.std.specs.Prelude.{IsSorted}
use Rattle.std.specs.List.{AllByRecursion}
use Rattle.std.specs.List.Sorted.{IsPermutation}
use Rattle.std.specs.Ordering.{is_eq, is_lt, int_cmp, ordering_reverse}
use Rattle.std.proofs.lemmas.Cmp.{tied_itself}
use Rattle.std.proofs.lemmas.Bool.Decides.{nat_tests}
use Rattle.std.proofs.lemmas.List.Sorted.{IsPermutation-sym, IsPermutation-trans, IsPermutation-map, length_permutation}
use Rattle.sqlite_trees.proofs.ListLemmas.{all-permutation, all_weaker, filter_all, IsPermutation-filter, all_from_map, ascending-map, ascending_from_map, ascending_weaker}
use Rattle.sqlite_value.specs.Order.{value_cmp}
use Rattle.sqlite_value.proofs.OrderLemmas.{value_cmp-Int, value_cmp_total}
use Rattle.sqlite.specs.declared.types.Value.TheVariants.{Int}
use Rattle.sqlite.specs.Order.{Row}
use Rattle.sqlite.specs.Tree.{rowid, IsTable}
use Rattle.sqlite.specs.View.{is_int}
use Rattle.std.proofs.lemmas.Int.{ints}
use Rattle.version_tables.specs.Represents.{rowid_shown, table_shown, defined, same_rowid, HaveDistinctRowids}
use Rattle.version_tables.specs.Rows.{AreNumbered, AreRising, InOrder, Rise, by_rowid}
use Rattle.sqlite_rules.proofs.TableLemmas.{int_is}
use Rattle.version_tables.proofs.Goes.{rid, tied_turned, untied_along}

-- ---- lists

pub all_by_place : {A : Type 0} (P : A → Type 0) (d : A) (xs : List A) → ((k : ℕ) → k < length xs → P (get_or xs k d)) → AllByRecursion P xs
all_by_place P d [] h = tt
all_by_place P d (x ∷ xs) h = (h 0 (omega arith), all_by_place P d xs (λ k low. h (suc k) (omega arith)))

-- ---- definitions

-- the rows of definitions are as many as the definitions
pub length-defined : (n : ℕ) (ds : List (List ℕ)) → length (defined n ds) ≡ length ds
length-defined n [] = refl
length-defined n (d ∷ ds) = ap suc (length-defined (n + 1) ds)

int_below : (m n : ℕ) → m < n → int_cmp (pos m) (pos n) ≡ Less
int_below m n h = grind (arith, nat_tests)

defined_later : (m n : ℕ) (ds : List (List ℕ)) → m < n → AllByRecursion (λ r. value_cmp (Int (pos m)) (rowid r) ≡ Less) (defined n ds)
defined_later m n [] h = tt
defined_later m n (d ∷ ds) h = (value_cmp-Int (pos m) (pos n) ∙ int_below m n h, defined_later m (n + 1) ds (omega arith))

-- the rows of definitions are in the order of their rowids
pub defined_table : (n : ℕ) (ds : List (List ℕ)) → IsTable (defined n ds)
defined_table n [] = tt
defined_table n (d ∷ ds) = (defined_later n (n + 1) ds (omega arith), defined_table (n + 1) ds)

-- ---- two lists of the same rows, both in the order of their rowids

others_stay : (x : Row) (xs : List Row) → AllByRecursion (λ r. by_rowid x r ≡ Less) xs → filter (λ r. not (same_rowid x r)) (x ∷ xs) ≡ xs
others_stay x xs later =
    let here = tied_itself value_cmp_total (rowid x) in
    rw here (filter_all (λ r. not (same_rowid x r)) xs (all_weaker _ (λ r. not (same_rowid x r) ≡ true) (λ r below. ap (λ o. not (is_eq o)) below) xs later))

not_both : (x y : Row) → by_rowid x y ≡ Less → by_rowid y x ≡ Less → ⊥
not_both x y p q = let e = value_cmp_total.trans _ _ _ p q in let same = tied_itself value_cmp_total (rowid x) in cc

abbrev AtOrAfter : Row → Row → Type 0
AtOrAfter x r = (r ≡ x) ⊎ (by_rowid x r ≡ Less)

same_heads : (x y : Row) → AtOrAfter x y → AtOrAfter y x → x ≡ y
same_heads x y (inl e) q = sym e
same_heads x y (inr below) (inl e) = e
same_heads x y (inr below) (inr above) = absurd (not_both x y below above)

-- two tables of the same rows, each in the order of its rowids, are one
pub same_tables : (xs ys : List Row) → IsTable xs → IsTable ys → IsPermutation xs ys → xs ≡ ys
same_tables [] [] p q h = refl
same_tables [] (y ∷ ys) p q h = absurd (let e = length_permutation _ _ h in omega arith)
same_tables (x ∷ xs) [] p q h = absurd (let e = length_permutation _ _ h in omega arith)
same_tables (x ∷ xs) (y ∷ ys) p q h =
    let from_x : AllByRecursion (AtOrAfter x) (x ∷ xs) = (inl refl, all_weaker (λ r. by_rowid x r ≡ Less) (AtOrAfter x) (λ r below. inr below) xs p.0) in
    let from_y : AllByRecursion (AtOrAfter y) (y ∷ ys) = (inl refl, all_weaker (λ r. by_rowid y r ≡ Less) (AtOrAfter y) (λ r below. inr below) ys q.0) in
    let heads : x ≡ y = same_heads x y (all-permutation (AtOrAfter x) _ _ h from_x).0 (all-permutation (AtOrAfter y) _ _ (IsPermutation-sym _ _ h) from_y).0 in
    let t = λ (r : Row). not (same_rowid x r) in
    let right : filter t (y ∷ ys) ≡ ys = subst (λ (z : Row). filter (λ r. not (same_rowid z r)) (y ∷ ys) ≡ ys) (sym heads) (others_stay y ys q.0) in
    let left : filter t (x ∷ xs) ≡ xs = others_stay x xs p.0 in
    let rest : IsPermutation xs ys = rw (left, right) at (IsPermutation-filter t _ _ h) in
    let tails = same_tables xs ys p.1 q.1 rest in
    cc

-- ---- sorted rows

not_after : (a b : Row) → is_lt (by_rowid b a) ≡ false → same_rowid a b ≡ false → by_rowid a b ≡ Less
not_after a b h apart = go (by_rowid b a) (value_cmp_total.antisymm (rowid a) (rowid b)) h (tied_turned a b apart)
  where
    go : (o : Ordering) → by_rowid a b ≡ ordering_reverse o → is_lt o ≡ false → is_eq o ≡ false → by_rowid a b ≡ Less
    go Less e h apart = absurd (true≢false h)
    go Equal e h apart = absurd (true≢false apart)
    go Greater e h apart = e

rest_sorted : (x : Row) (xs : List Row) → IsSorted by_rowid (x ∷ xs) → IsSorted by_rowid xs
rest_sorted x xs s k d low high =
    let e = s (suc k) d (omega arith) (omega arith) in
    let next : suc k + 1 ≡ suc (k + 1) = omega arith in
    subst (λ (n : ℕ). is_lt (by_rowid (get_or (x ∷ xs) n d) (get_or xs k d)) ≡ false) next e

pub sorted_table : (xs : List Row) → IsSorted by_rowid xs → HaveDistinctRowids xs → IsTable xs
sorted_table [] s u = tt
sorted_table (x ∷ []) s u = (tt, tt)
sorted_table (x ∷ y ∷ xs) s u =
    let rest = sorted_table (y ∷ xs) (rest_sorted x (y ∷ xs) s) u.1 in
    let first = not_after x y (s 0 [] (omega arith) (omega arith)) u.0.0 in
    ((first, all_weaker (λ r. by_rowid y r ≡ Less) (λ r. by_rowid x r ≡ Less) (λ r below. value_cmp_total.trans _ _ _ first below) xs rest.0), rest)

table_untied : (xs : List Row) → IsTable xs → HaveDistinctRowids xs
table_untied xs = ascending_weaker (λ a b. by_rowid a b ≡ Less) (λ a b. same_rowid a b ≡ false) (λ a b below. ap is_eq below) xs

-- the query for definitions gives them in the order of their numbers
pub definitions_in_order : (tree tables : List Row) (ds : List (List ℕ)) → InOrder table_shown by_rowid tree tables → IsPermutation (defined 1 ds) (map table_shown tree) → tables ≡ defined 1 ds
definitions_in_order tree tables ds order says =
    let to = order.0 in
    let same : IsPermutation (defined 1 ds) (map table_shown to) = IsPermutation-trans _ _ _ says (IsPermutation-map table_shown _ _ order.1) in
    let table = defined_table 1 ds in
    let untied : HaveDistinctRowids (map table_shown to) = untied_along _ _ same (table_untied _ table) in
    let up : IsTable to = sorted_table to order.3 (ascending_from_map (λ a b. same_rowid a b ≡ false) table_shown to untied) in
    order.2 ∙ sym (same_tables (defined 1 ds) (map table_shown to) table (ascending-map (λ a b. by_rowid a b ≡ Less) table_shown to up) same)

-- ---- rowids

pub int_less : (m n : ℤ) → m <ℤ n → int_cmp m n ≡ Less
int_less m n h = grind (arith, nat_tests, ints)

rises_by : (a b : Row) → Rise a b → by_rowid a b ≡ Less
rises_by a b h = rw (h.low_is.1, h.high_is.1) (value_cmp-Int h.low h.high ∙ int_less h.low h.high h.rises)

rising_table : (rows : List Row) → AreRising rows → IsTable rows
rising_table [] up = tt
rising_table (x ∷ []) up = (tt, tt)
rising_table (x ∷ y ∷ rows) up =
    let next : (k : ℕ) → suc k + 1 ≡ suc (k + 1) = λ k. omega arith in
    let rest = rising_table (y ∷ rows) (λ k low. subst (λ (n : ℕ). Rise (get_or (y ∷ rows) k []) (get_or (x ∷ y ∷ rows) n [])) (next k) (up (suc k) (omega arith))) in
    let first : by_rowid x y ≡ Less = rises_by x y (up 0 (omega arith)) in
    ((first, all_weaker (λ r. by_rowid y r ≡ Less) (λ r. by_rowid x r ≡ Less) (λ r below. value_cmp_total.trans _ _ _ first below) rows rest.0), rest)

-- a tree whose rowids are shown as rising numbers has distinct whole numbers for rowids
pub own_rowids : (tree ids : List Row) → IsPermutation (map rowid_shown tree) ids → AreNumbered ids → AreRising ids → HaveDistinctRowids tree × AllByRecursion (λ r. is_int (rowid r) ≡ true) tree
own_rowids tree ids same ints up =
    let back = IsPermutation-sym _ _ same in (
      ascending_from_map (λ a b. same_rowid a b ≡ false) rowid_shown tree (untied_along _ _ back (table_untied ids (rising_table ids up))),
      all_from_map (λ r. is_int (rowid r) ≡ true) rowid_shown tree (all-permutation (λ r. is_int (rowid r) ≡ true) _ _ back (all_by_place (λ r. is_int (rowid r) ≡ true) [] ids ints)),
    )

-- ---- and back: rows with rowids of their own show them rising

pub int_greater : (m n : ℤ) → int_cmp m n ≡ Less → m <ℤ n
int_greater m n h = grind (arith, nat_tests, ints)

pub rid_below : (a b : Row) → is_int (rowid a) ≡ true → is_int (rowid b) ≡ true → by_rowid a b ≡ Less → rid a <ℤ rid b
rid_below a b int_a int_b below = int_greater (rid a) (rid b) (sym (value_cmp-Int (rid a) (rid b)) ∙ ap₂ value_cmp (sym (int_is (rowid a) int_a)) (sym (int_is (rowid b) int_b)) ∙ below)

rise_of : (a b : Row) → is_int (rowid a) ≡ true → is_int (rowid b) ≡ true → by_rowid a b ≡ Less → Rise (rowid_shown a) (rowid_shown b)
rise_of a b int_a int_b below = record {
  low = rid a;
  high = rid b;
  low_is = (omega arith, int_is (rowid a) int_a);
  high_is = (omega arith, int_is (rowid b) int_b);
  rises = rid_below a b int_a int_b below;
}

numbered_shown : (rows : List Row) → AllByRecursion (λ r. is_int (rowid r) ≡ true) rows → AreNumbered (map rowid_shown rows)
numbered_shown [] ints k low = absurd (omega (arith, low))
numbered_shown (x ∷ rows) ints zero low = ints.0
numbered_shown (x ∷ rows) ints (suc k) low = numbered_shown rows ints.1 k (omega (arith, low))

rising_shown : (rows : List Row) → IsTable rows → AllByRecursion (λ r. is_int (rowid r) ≡ true) rows → AreRising (map rowid_shown rows)
rising_shown [] up ints k low = absurd (omega (arith, low))
rising_shown (x ∷ []) up ints k low = absurd (omega (arith, low))
rising_shown (x ∷ y ∷ rows) up ints zero low = rise_of x y ints.0 ints.1.0 up.0.0
rising_shown (x ∷ y ∷ rows) up ints (suc k) low =
    let next : suc (k + 1) ≡ suc k + 1 = omega arith in
    subst (λ (n : ℕ). Rise (get_or (map rowid_shown (y ∷ rows)) k []) (get_or (map rowid_shown (x ∷ y ∷ rows)) n [])) next (rising_shown (y ∷ rows) up.1 ints.1 k (omega (arith, low)))

-- the query for rowids gives rising numbers, if they are distinct whole numbers
pub rowids_rise : (tree ids : List Row) → InOrder rowid_shown by_rowid tree ids → HaveDistinctRowids tree → AllByRecursion (λ r. is_int (rowid r) ≡ true) tree → AreNumbered ids × AreRising ids
rowids_rise tree ids order untied keyed =
    let to = order.0 in
    let ints = all-permutation (λ r. is_int (rowid r) ≡ true) tree to order.1 keyed in
    let up = sorted_table to order.3 (untied_along tree to order.1 untied) in
    subst (λ (l : List Row). AreNumbered l × AreRising l) (sym order.2) (numbered_shown to ints, rising_shown to up ints)
