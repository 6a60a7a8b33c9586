-- Why UPDATE and DELETE of versions fail, and that they leave a database as healthy as it was.
use Rattle.std.proofs.Common.{◌≡◌, ◌∙◌, ℕ, ℤ, pos, ◌+ℤ◌, ◌≤ℤ◌, List, [], ◌∷◌, ◌++◌, map, filter, Bool, true, false, not, cond, refl, sym, ap, subst, arith, Less}
use Rattle.std.specs.List.{AllByRecursion, list_any}
use Rattle.std.specs.List.Sorted.{IsPermutation}
use Rattle.std.proofs.lemmas.List.{map-append}
use Rattle.std.proofs.lemmas.List.Sorted.{IsPermutation-append, IsPermutation-append_right, IsPermutation-cons, IsPermutation-map, IsPermutation-middle, IsPermutation-refl, IsPermutation-sym, IsPermutation-trans}
use Rattle.std.proofs.lemmas.Int.{ints}
use Rattle.period_core.specs.Encoding.{greatest_integer, least_integer}
use Rattle.sqlite.specs.Cast.{cast}
use Rattle.sqlite.specs.Edit.{are_fresh, is_taken, put_all}
use Rattle.sqlite.specs.Effect.{Database}
use Rattle.sqlite.specs.Kind.TheVariants.{Integer}
use Rattle.sqlite.specs.Order.{Row}
use Rattle.sqlite.specs.Tree.{IsTable, put_row, rowid}
use Rattle.sqlite.specs.View.{is_int}
use Rattle.sqlite.specs.declared.types.Value.TheVariants.{Int}
use Rattle.sqlite_rules.proofs.TableLemmas.{int_is}
use Rattle.sqlite_sql.specs.Ops.{fits_i64}
use Rattle.sqlite_trees.proofs.ListLemmas.{all-filter, all-permutation, all_both, all_from_map, all_weaker, ascending-filter, ascending-map, ascending_from_map}
use Rattle.sqlite_value.specs.Order.{column, value_cmp}
use Rattle.std.specs.Ordering.{is_eq}
use Rattle.version_tables.specs.Healthy.{HaveRoomFor, IsShort}
use Rattle.version_tables.specs.Represents.{HaveDistinctRowids, Records, Represents, Version, rowid_shown, same_rowid, stored, version_shown}
use Rattle.version_tables.proofs.Allowed.{IsOwnRow, fits_64}
use Rattle.version_tables.proofs.Goes.{rid, tied_turned, untied_along}
use Rattle.version_tables.proofs.Numbers.{all-put_all, table_put_all}
use Rattle.version_tables.proofs.Rows.{cast_int, put_row_fresh}

-- ---- rows of their own rowids are fresh for each other

any_none : {X : Type 0} (test : X → Bool) (xs : List X) → AllByRecursion (λ x. test x ≡ false) xs → list_any test xs ≡ false
any_none test [] none = refl
any_none test (x ∷ xs) none = rw none.0 (any_none test xs none.1)

behind : {X : Type 0} (P : X → Type 0) (xs ys : List X) → AllByRecursion P (xs ++ ys) → AllByRecursion P ys
behind P [] ys all = all
behind P (x ∷ xs) ys all = behind P xs ys all.1

pub fresh_by : (news rows : List Row) → HaveDistinctRowids (news ++ rows) → are_fresh rows news ≡ true
fresh_by [] rows apart = refl
fresh_by (r ∷ news) rows apart =
    let free : is_taken rows r ≡ false =
    any_none (λ x. is_eq (value_cmp (rowid x) (rowid r))) rows (all_weaker (λ x. same_rowid r x ≡ false) (λ x. same_rowid x r ≡ false) (λ x other. tied_turned r x other) rows (behind (λ x. same_rowid r x ≡ false) news rows apart.0)) in
    let moved : IsPermutation (r ∷ news ++ rows) (news ++ put_row r rows) = IsPermutation-trans _ _ _ (IsPermutation-sym _ _ (IsPermutation-middle news r rows)) (IsPermutation-append_right news _ _ (put_row_fresh r rows free)) in
    rw free (fresh_by news (put_row r rows) (untied_along _ _ moved apart))

pub split : {X : Type 0} (p : X → Bool) (xs : List X) → IsPermutation xs (filter p xs ++ filter (λ x. not (p x)) xs)
split p [] = IsPermutation-refl []
split p (x ∷ xs) = go (p x) (split p xs)
  where
    go : (b : Bool) → IsPermutation xs (filter p xs ++ filter (λ x. not (p x)) xs) → IsPermutation (x ∷ xs) (cond b (x ∷ filter p xs) (filter p xs) ++ cond (not b) (x ∷ filter (λ x. not (p x)) xs) (filter (λ x. not (p x)) xs))
    go true more = IsPermutation-cons x _ _ more
    go false more = IsPermutation-trans _ _ _ (IsPermutation-cons x _ _ more) (IsPermutation-sym _ _ (IsPermutation-middle (filter p xs) x (filter (λ x. not (p x)) xs)))

all_true : {X : Type 0} (p : X → Bool) (xs : List X) → AllByRecursion (λ x. p x ≡ true) (filter p xs)
all_true p [] = tt
all_true p (x ∷ xs) = go (p x) refl (all_true p xs)
  where
    go : (b : Bool) → p x ≡ b → AllByRecursion (λ x. p x ≡ true) (filter p xs) → AllByRecursion (λ x. p x ≡ true) (cond b (x ∷ filter p xs) (filter p xs))
    go true is more = (is, more)
    go false is more = more

all_mapped : {X Y : Type 0} (P : Y → Type 0) (f : X → Y) (xs : List X) → AllByRecursion (λ x. P (f x)) xs → AllByRecursion P (map f xs)
all_mapped P f [] all = tt
all_mapped P f (x ∷ xs) all = (all.0, all_mapped P f xs all.1)

-- ---- a row of bt_version shows a version

-- the row shows a version of which P holds
abbrev ShowsOne : (Version → Type 0) → Row → Type 0
ShowsOne P b = (v : Version) × (b ≡ stored v) × P v

show_one : (P : Version → Type 0) (vs : List Version) → AllByRecursion P vs → AllByRecursion (ShowsOne P) (map stored vs)
show_one P [] all = tt
show_one P (v ∷ vs) all = ((v, refl, all.0), show_one P vs all.1)

pub rows_show : (P : Version → Type 0) (db : Database) (m : Records) → AllByRecursion P m.versions → Represents db m → AllByRecursion (λ r. ShowsOne P (version_shown r)) (db.trees 2)
rows_show P db m all was = all_from_map (ShowsOne P) version_shown (db.trees 2) (all-permutation (ShowsOne P) _ _ was.says.versions (show_one P m.versions all))

-- ---- rows that are put back under their rowids

module _ (rows : List Row) (untied : HaveDistinctRowids rows) (keyed : AllByRecursion (λ r. is_int (rowid r) ≡ true) rows) (taken : Row → Bool) (body : Row → Row) (news left : List Row)
    (back : IsPermutation (map (λ r. cast Integer (column r 0) ∷ body (version_shown r)) (filter taken rows)) news) (left_is : left ≡ filter (λ r. not (taken r)) rows) where
  abbrev again_of : Row → Row
  again_of r = cast Integer (column r 0) ∷ body (version_shown r)

  same_id : (r : Row) → is_int (rowid r) ≡ true → cast Integer (column r 0) ≡ column r 0
  same_id r int = let is : column r 0 ≡ Int (rid r) = int_is (rowid r) int in ap (cast Integer) is ∙ cast_int (rid r) ∙ sym is

  ids_back : (rs : List Row) → AllByRecursion (λ r. is_int (rowid r) ≡ true) rs → map rowid_shown (map again_of rs) ≡ map rowid_shown rs
  ids_back [] keyed = refl
  ids_back (r ∷ rs) ints = let one = same_id r ints.0 in let more = ids_back rs ints.1 in cc

  keyed_taken : AllByRecursion (λ r. is_int (rowid r) ≡ true) (filter taken rows)
  keyed_taken = all-filter (λ r. is_int (rowid r) ≡ true) taken rows keyed

  pub fresh_back : are_fresh left news ≡ true
  fresh_back =
      let apart = ascending-map (λ a b. same_rowid a b ≡ false) rowid_shown rows untied in
      let parts : IsPermutation (map rowid_shown rows) (map rowid_shown (filter taken rows) ++ map rowid_shown (filter (λ r. not (taken r)) rows)) =
      subst (IsPermutation (map rowid_shown rows)) (map-append rowid_shown _ _) (IsPermutation-map rowid_shown _ _ (split taken rows)) in
      let new : IsPermutation (map rowid_shown (filter taken rows)) (map rowid_shown news) = subst (λ l. IsPermutation l (map rowid_shown news)) (ids_back (filter taken rows) keyed_taken) (IsPermutation-map rowid_shown _ _ back) in
      let stays : IsPermutation (map rowid_shown (filter (λ r. not (taken r)) rows)) (map rowid_shown left) = subst (λ l. IsPermutation (map rowid_shown (filter (λ r. not (taken r)) rows)) (map rowid_shown l)) (sym left_is) (IsPermutation-refl _) in
      let all : IsPermutation (map rowid_shown rows) (map rowid_shown (news ++ left)) =
      IsPermutation-trans _ _ _ parts (subst (IsPermutation _) (sym (map-append rowid_shown news left)) (IsPermutation-append _ _ _ _ new stays)) in
      fresh_by news left (ascending_from_map (λ a b. same_rowid a b ≡ false) rowid_shown (news ++ left) (untied_along _ _ all apart))

  -- a property of all rowids holds of the rowids of the rows that are put back
  all_back : (Q : ℤ → Type 0) → AllByRecursion (λ r. Q (rid r)) rows → AllByRecursion (λ r. Q (rid r)) (put_all left news)
  all_back Q all =
      let each : AllByRecursion (λ r. Q (rid (again_of r))) (filter taken rows) =
      all_both (λ r. is_int (rowid r) ≡ true) (λ r. Q (rid r)) (λ r. Q (rid (again_of r))) (λ r int q. subst (λ v. Q (rid (v ∷ []))) (sym (same_id r int)) q) (filter taken rows) keyed_taken (all-filter (λ r. Q (rid r)) taken rows all) in
      all-put_all (λ r. Q (rid r)) news left (all-permutation (λ r. Q (rid r)) _ _ back (all_mapped (λ r. Q (rid r)) again_of (filter taken rows) each)) (subst (AllByRecursion (λ r. Q (rid r))) (sym left_is) (all-filter (λ r. Q (rid r)) (λ r. not (taken r)) rows all))

  pub keyed_back : AllByRecursion (λ r. is_int (rowid r) ≡ true) (put_all left news)
  keyed_back =
      let each : AllByRecursion (λ r. is_int (rowid (again_of r)) ≡ true) (filter taken rows) = all_weaker (λ r. is_int (rowid r) ≡ true) (λ r. is_int (rowid (again_of r)) ≡ true) (λ r int. ap is_int (same_id r int) ∙ int) (filter taken rows) keyed_taken in
      all-put_all (λ r. is_int (rowid r) ≡ true) news left (all-permutation (λ r. is_int (rowid r) ≡ true) _ _ back (all_mapped (λ r. is_int (rowid r) ≡ true) again_of (filter taken rows) each))
      (subst (AllByRecursion (λ r. is_int (rowid r) ≡ true)) (sym left_is) (all-filter (λ r. is_int (rowid r) ≡ true) (λ r. not (taken r)) rows keyed))

  pub room_back : (count : ℕ) → HaveRoomFor count rows → HaveRoomFor count (put_all left news)
  room_back count room = record {
    rise = table_put_all news left (subst IsTable (sym left_is) (ascending-filter (λ a b. value_cmp (rowid a) (rowid b) ≡ Less) (λ r. not (taken r)) rows room.rise));
    low = all_back (λ n. least_integer ≤ℤ n) room.low;
    high = all_back (λ n. (n +ℤ pos count) ≤ℤ greatest_integer) room.high;
    few = room.few;
  }

  pub own_back : (P : Version → Type 0) (f : Version → Version) → ((v : Version) → P v → body (stored v) ≡ stored (f v)) → (count : ℕ) → HaveRoomFor count rows → AllByRecursion (λ r. ShowsOne P (version_shown r)) rows
      → ((r : Row) (v : Version) → P v → taken r ≡ true → version_shown r ≡ stored v → IsShort (f v).values) → AllByRecursion IsOwnRow news
  own_back P f body-stored count room show short =
      let ids = all_both (λ r. is_int (rowid r) ≡ true) (λ r. least_integer ≤ℤ rid r) (λ r. (is_int (rowid r) ≡ true) × (least_integer ≤ℤ rid r)) (λ r int low. (int, low)) rows keyed room.low in
      let fits = all_both (λ r. (is_int (rowid r) ≡ true) × (least_integer ≤ℤ rid r)) (λ r. (rid r +ℤ pos count) ≤ℤ greatest_integer) (λ r. (is_int (rowid r) ≡ true) × (fits_i64 (rid r) ≡ true)) (λ r it high. (it.0, fits_64 (rid r) it.1 (below (rid r) count high))) rows ids room.high in
      let both = all_both (λ r. (is_int (rowid r) ≡ true) × (fits_i64 (rid r) ≡ true)) (λ r. ShowsOne P (version_shown r)) (λ r. ((is_int (rowid r) ≡ true) × (fits_i64 (rid r) ≡ true)) × ShowsOne P (version_shown r)) (λ r it one. (it, one)) rows fits show in
      all-permutation IsOwnRow _ _ back (all_mapped IsOwnRow again_of (filter taken rows)
      (all_both (λ r. taken r ≡ true) (λ r. ((is_int (rowid r) ≡ true) × (fits_i64 (rid r) ≡ true)) × ShowsOne P (version_shown r)) (λ r. IsOwnRow (again_of r)) (λ r is it. own r is it.0.0 it.0.1 it.1.0 it.1.1 it.1.2) (filter taken rows) (all_true taken rows) (all-filter _ taken rows both)))
    where
      below : (n : ℤ) (k : ℕ) → (n +ℤ pos k) ≤ℤ greatest_integer → n ≤ℤ greatest_integer
      below n k h = omega (arith, ints, h)

      own : (r : Row) → taken r ≡ true → is_int (rowid r) ≡ true → fits_i64 (rid r) ≡ true → (v : Version) → version_shown r ≡ stored v → P v → IsOwnRow (again_of r)
      own r is int fit v shows holds =
          (rid r, f v, ap (λ c. c ∷ body (version_shown r)) (same_id r int ∙ int_is (rowid r) int) ∙ ap (λ b. Int (rid r) ∷ body b) shows ∙ ap (λ b. Int (rid r) ∷ b) (body-stored v holds), short r v holds is shows, fit)
