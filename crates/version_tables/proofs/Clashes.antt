-- Rows of bt_version clash in the index of their key if their versions are of one key.
use Rattle.std.proofs.Common.{◌≡◌, ◌∙◌, ◌&&◌, ◌==◌, ◌∷◌, ◌≤◌, ◌<◌, pos, ℕ, Bool, true, false, not, List, [], Some, map, refl, subst, sym, ap, arith}
use Rattle.std.specs.List.{AllByRecursion, list_all, list_any}
use Rattle.std.specs.Cmp.{IsTotalOrder}
use Rattle.std.specs.Cmp.Lexicographic.{slice_cmp}
use Rattle.std.specs.List.Sorted.{IsPermutation}
use Rattle.std.specs.Ordering.{int_cmp, is_eq, is_ne, nat_cmp, ordering_reverse}
use Rattle.std.specs.declared.cmp.Ordering.{Ordering}
use Rattle.std.specs.declared.cmp.Ordering.TheVariants.{Equal, Greater, Less}
use Rattle.std.proofs.lemmas.Bool.{or_parts}
use Rattle.std.proofs.lemmas.Bool.Decides.{nat_tests}
use Rattle.std.proofs.lemmas.Cmp.{int_cmp_total, nat_list_cmp_total, tied_itself}
use Rattle.std.proofs.lemmas.List.Sorted.{IsPermutation-sym}
use Rattle.sqlite_trees.proofs.ListLemmas.{all-permutation, all_both, all_weaker, ascending-map, ascending_from_map, ascending_weaker, pull_back}
use Rattle.sqlite_value.proofs.OrderLemmas.{value_cmp-Blob, value_cmp-Int, value_cmp_total}
use Rattle.sqlite_value.specs.Order.{column, value_cmp}
use Rattle.sqlite_value.specs.Keys.{first_key}
use Rattle.sqlite.specs.Effect.{Database, IsDatabase}
use Rattle.sqlite.specs.Collation.TheVariants.{Binary}
use Rattle.sqlite_schema.specs.declared.schema.Index.{Index}
use Rattle.sqlite.specs.Ops.{binary, from_truth, is_true}
use Rattle.sqlite.specs.Order.{Row}
use Rattle.sqlite.specs.Table.{Table}
use Rattle.sqlite.specs.Tree.{IsAscending, Trees, rowid, with_tree}
use Rattle.sqlite.specs.View.{is_int}
use Rattle.sqlite.specs.declared.types.Value.{Value}
use Rattle.sqlite.specs.declared.types.Value.TheVariants.{Blob, Int, Null, Real, Text}
use Rattle.sqlite_schema.specs.declared.schema.Constraint.TheVariants.{Unique}
use Rattle.sqlite_schema.specs.Rules.{Keeps, agree, clashes, differ, equal, guards, passes}
use Rattle.version_tables.specs.Healthy.{HaveOwnKeys}
use Rattle.version_tables.specs.Represents.{HaveDistinctRowids, Records, Represents, Version, same_key, same_rowid, stored, version_shown}
use Rattle.version_tables.specs.Tables.{HasStoreTables, IsApart, Others, definition_table, meta_table, schema_with, version_index, version_table}
use Rattle.version_tables.proofs.Goes.{tied_turned, untied_along}
use Rattle.version_tables.proofs.Shows.{pos_eq}

abbrev pub agrees : Row → Row → Bool
agrees s r = agree (version_index 3).order (1 ∷ 2 ∷ 3 ∷ 5 ∷ []) s (1 ∷ 2 ∷ 3 ∷ 5 ∷ []) r

-- two rows have the same key and are not one row
abbrev pub rivals : Row → Row → Bool
rivals s r = agrees s r && differ (rowid s) (rowid r)

abbrev pub Apart : List Row → Type 0
Apart rows = AllByRecursion (λ r. AllByRecursion (λ s. rivals s r ≡ false) rows) rows

-- two rows that a query shows alike
abbrev pub alike : Row → Row → Bool
alike b a = equal Binary (column b 0) (column a 0) && (equal Binary (column b 1) (column a 1) && (equal Binary (column b 2) (column a 2) && (equal Binary (column b 4) (column a 4) && true)))

four_true : (a b c d : Bool) → (is_true (from_truth (Some a)) && (is_true (from_truth (Some b)) && (is_true (from_truth (Some c)) && (is_true (from_truth (Some d)) && true)))) ≡ (a && (b && (c && d)))
four_true true true true true = refl
four_true true true true false = refl
four_true true true false d = refl
four_true true false c d = refl
four_true false b c d = refl

-- stored versions are alike in the index if they have one key
pub alike-stored : (k v : Version) → alike (stored v) (stored k) ≡ same_key k v
unfolding binary
alike-stored k v =
    rw (value_cmp-Int (pos v.table) (pos k.table), value_cmp-Blob v.values k.values, value_cmp-Int v.start k.start, value_cmp-Int v.from k.from, pos_eq v.table k.table)
    (four_true (v.table == k.table) (is_eq (slice_cmp nat_cmp v.values k.values)) (is_eq (int_cmp v.start k.start)) (is_eq (int_cmp v.from k.from)))

-- ---- keys either way round

reversed : (o : Ordering) → is_eq (ordering_reverse o) ≡ is_eq o
reversed Less = refl
reversed Equal = refl
reversed Greater = refl

eq_turned : {K : Type 0} {R : K → K → Ordering} → IsTotalOrder R → (a b : K) → is_eq (R a b) ≡ is_eq (R b a)
eq_turned {R = R} total a b = ap is_eq (total.antisymm a b) ∙ reversed (R b a)

-- having one key is symmetric
pub same_key-turned : (k v : Version) → same_key k v ≡ same_key v k
same_key-turned k v =
    let table : (v.table == k.table) ≡ (k.table == v.table) = sym (pos_eq v.table k.table) ∙ eq_turned int_cmp_total (pos v.table) (pos k.table) ∙ pos_eq k.table v.table in
    rw (table, eq_turned nat_list_cmp_total v.values k.values, eq_turned int_cmp_total v.start k.start, eq_turned int_cmp_total v.from k.from) refl

-- ---- rows of different versions

differ_itself : (v : Value) → is_int v ≡ true → differ v v ≡ false
unfolding binary
differ_itself (Int n) int = let same = tied_itself value_cmp_total (Int n) in rw same refl
differ_itself Null int = absurd cc
differ_itself (Real x) int = absurd cc
differ_itself (Text x) int = absurd cc
differ_itself (Blob x) int = absurd cc

and_false : (b : Bool) → (b && false) ≡ false
and_false true = refl
and_false false = refl

not_itself : (r : Row) → is_int (rowid r) ≡ true → rivals r r ≡ false
not_itself r int = rw (differ_itself (rowid r) int) (and_false (agrees r r))

not_rivals : (s r : Row) → agrees s r ≡ false → rivals s r ≡ false
not_rivals s r other = rw other refl

none_rival : (rows : List Row) → AllByRecursion (λ r. is_int (rowid r) ≡ true) rows → IsAscending (λ a b. (agrees b a ≡ false) × (agrees a b ≡ false)) rows → Apart rows
none_rival [] keyed up = tt
none_rival (x ∷ rows) keyed up = (
  (not_itself x keyed.0, all_weaker _ (λ s. rivals s x ≡ false) (λ s others. not_rivals s x others.0) rows up.0),
  all_both (λ r. (agrees r x ≡ false) × (agrees x r ≡ false)) (λ r. AllByRecursion (λ s. rivals s r ≡ false) rows) (λ r. AllByRecursion (λ s. rivals s r ≡ false) (x ∷ rows)) (λ r others rest. (not_rivals x r others.1, rest)) rows up.0 (none_rival rows keyed.1 up.1),
)

shown_apart : (rows : List Row) → IsAscending (λ a b. (alike (version_shown b) (version_shown a) ≡ false) × (alike (version_shown a) (version_shown b) ≡ false)) rows → IsAscending (λ a b. (agrees b a ≡ false) × (agrees a b ≡ false)) rows
unfolding first_key
shown_apart rows apart = apart

pub rows_apart : (rows : List Row) (vs : List Version) → AllByRecursion (λ r. is_int (rowid r) ≡ true) rows → IsPermutation (map stored vs) (map version_shown rows) → HaveOwnKeys vs → Apart rows
rows_apart rows vs keyed same own =
    let back = pull_back version_shown (map version_shown rows) (map stored vs) (IsPermutation-sym _ _ same) rows refl in
    let R = λ (a b : Row). (alike b a ≡ false) × (alike a b ≡ false) in
    let both : IsAscending (λ (v w : Version). R (stored v) (stored w)) vs =
    ascending_weaker (λ (v w : Version). same_key v w ≡ false) (λ (v w : Version). R (stored v) (stored w)) (λ v w other. (alike-stored v w ∙ other, alike-stored w v ∙ same_key-turned w v ∙ other)) vs own in
    let shown : IsAscending R (map version_shown back.0) = subst (IsAscending R) back.2 (ascending-map R stored vs both) in
    let apart = none_rival back.0 (all-permutation (λ r. is_int (rowid r) ≡ true) rows back.0 back.1 keyed) (shown_apart back.0 (ascending_from_map R version_shown back.0 shown)) in
    let home = IsPermutation-sym _ _ back.1 in
    all-permutation (λ r. AllByRecursion (λ s. rivals s r ≡ false) rows) back.0 rows home
    (all_weaker (λ r. AllByRecursion (λ s. rivals s r ≡ false) back.0) (λ r. AllByRecursion (λ s. rivals s r ≡ false) rows) (λ r all. all-permutation (λ s. rivals s r ≡ false) back.0 rows home all) back.0 apart)

-- ---- and versions of different rows

differ_by : (o : Ordering) → is_eq o ≡ false → is_true (from_truth (Some (is_ne o))) ≡ true
differ_by Less h = refl
differ_by Equal h = absurd cc
differ_by Greater h = refl

differ_ints : (a b : Value) → is_int a ≡ true → is_int b ≡ true → is_eq (value_cmp a b) ≡ false → differ a b ≡ true
unfolding binary
differ_ints (Int m) (Int n) p q h = differ_by (value_cmp (Int m) (Int n)) h
differ_ints (Int m) Null p q h = absurd cc
differ_ints (Int m) (Real x) p q h = absurd cc
differ_ints (Int m) (Text x) p q h = absurd cc
differ_ints (Int m) (Blob x) p q h = absurd cc
differ_ints Null b p q h = absurd cc
differ_ints (Real x) b p q h = absurd cc
differ_ints (Text x) b p q h = absurd cc
differ_ints (Blob x) b p q h = absurd cc

no_agreement : (a b : Bool) → (a && b) ≡ false → b ≡ true → a ≡ false
no_agreement true b h e = absurd cc
no_agreement false b h e = refl

heads_differ : (x : Row) (xs : List Row) → is_int (rowid x) ≡ true → AllByRecursion (λ y. same_rowid x y ≡ false) xs → AllByRecursion (λ y. is_int (rowid y) ≡ true) xs → AllByRecursion (λ s. rivals s x ≡ false) xs
    → AllByRecursion (λ y. agrees y x ≡ false) xs
heads_differ x [] int untied ints apart = tt
heads_differ x (y ∷ xs) int untied ints apart =
    (no_agreement (agrees y x) (differ (rowid y) (rowid x)) apart.0 (differ_ints (rowid y) (rowid x) ints.0 int (tied_turned x y untied.0)), heads_differ x xs int untied.1 ints.1 apart.1)

rows_differ : (rows : List Row) → HaveDistinctRowids rows → AllByRecursion (λ r. is_int (rowid r) ≡ true) rows → Apart rows → IsAscending (λ a b. agrees b a ≡ false) rows
rows_differ [] untied ints apart = tt
rows_differ (x ∷ xs) untied ints apart = (
  heads_differ x xs ints.0 untied.0 ints.1 apart.0.1,
  rows_differ xs untied.1 ints.1 (all_weaker (λ r. AllByRecursion (λ s. rivals s r ≡ false) (x ∷ xs)) (λ r. AllByRecursion (λ s. rivals s r ≡ false) xs) (λ r all. all.1) xs apart.1),
)

shown_alike : (rows : List Row) → IsAscending (λ a b. agrees b a ≡ false) rows → IsAscending (λ a b. alike (version_shown b) (version_shown a) ≡ false) rows
unfolding first_key
shown_alike rows apart = apart

-- rows that are apart in the index of their key are shown as versions of different keys
pub shown_differ : (rows shown : List Row) → HaveDistinctRowids rows → AllByRecursion (λ r. is_int (rowid r) ≡ true) rows → Apart rows → IsPermutation shown (map version_shown rows) → IsAscending (λ a b. alike b a ≡ false) shown
shown_differ rows shown untied ints apart same =
    let back = pull_back version_shown (map version_shown rows) shown (IsPermutation-sym _ _ same) rows refl in
    let each : Apart back.0 = all-permutation (λ r. AllByRecursion (λ s. rivals s r ≡ false) back.0) rows back.0 back.1
    (all_weaker (λ r. AllByRecursion (λ s. rivals s r ≡ false) rows) (λ r. AllByRecursion (λ s. rivals s r ≡ false) back.0) (λ r all. all-permutation (λ s. rivals s r ≡ false) rows back.0 back.1 all) rows apart) in
    let up = rows_differ back.0 (untied_along rows back.0 back.1 untied) (all-permutation (λ r. is_int (rowid r) ≡ true) rows back.0 back.1 ints) each in
    subst (IsAscending (λ a b. alike b a ≡ false)) (sym back.2) (ascending-map (λ a b. alike b a ≡ false) version_shown back.0 (shown_alike back.0 up))

-- ---- so the index of the key is unique, and no other is over the first trees

any_none : {X : Type 0} (test : X → Bool) (xs : List X) → AllByRecursion (λ x. test x ≡ false) xs → list_any test xs ≡ false
any_none test [] none = refl
any_none test (x ∷ xs) none = rw none.0 (any_none test xs none.1)

one_unguarded : (unique clash : Bool) → not ((unique && false) && clash) ≡ true
one_unguarded true clash = refl
one_unguarded false clash = refl

unguarded : (t : Table) → t.tree < 4 → (indexes : List Index) → AllByRecursion (λ i. 4 ≤ i.table) indexes → (db : Trees) (row : Row) → list_all (λ i. not (guards i t && clashes i.order i.columns (db t.tree) row)) indexes ≡ true
unguarded t low [] bare db row = refl
unguarded t low (i ∷ indexes) bare db row =
    let far = bare.0 in
    let other : (i.table == t.tree) ≡ false = grind (arith, nat_tests) in
    rw (other, one_unguarded i.is_unique (clashes i.order i.columns (db t.tree) row)) (unguarded t low indexes bare.1 db row)

pub each : {X : Type 0} (P : X → Type 0) → ((x : X) → P x) → (xs : List X) → AllByRecursion P xs
each P holds [] = tt
each P holds (x ∷ xs) = (holds x, each P holds xs)

module _ (others : Others) (bare : AllByRecursion (λ i. 4 ≤ i.table) others.indexes) (db next : Trees) (same : AllByRecursion (λ t. next t.tree ≡ db t.tree) others.tables) where
  theirs : (ts : List Table) → AllByRecursion (λ t. next t.tree ≡ db t.tree) ts → AllByRecursion (λ t. AllByRecursion (λ row. passes Unique (schema_with others) db t row ≡ true) (db t.tree)) ts
      → AllByRecursion (λ t. AllByRecursion (λ row. passes Unique (schema_with others) next t row ≡ true) (next t.tree)) ts
  theirs [] same was = tt
  theirs (t ∷ ts) same was =
      (subst (λ (l : List Row). AllByRecursion (λ row. list_all (λ i. not (guards i t && clashes i.order i.columns l row)) (schema_with others).indexes ≡ true) l) (sym same.0) was.0, theirs ts same.1 was.1)

  pub unique_kept : Keeps Unique (schema_with others) db → Apart (next 2) → Keeps Unique (schema_with others) next
  unique_kept was own =
      let meta = each (λ row. passes Unique (schema_with others) next (meta_table 0) row ≡ true) (λ row. unguarded (meta_table 0) (omega arith) others.indexes bare next row) (next 0) in
      let definitions = each (λ row. passes Unique (schema_with others) next (definition_table 1) row ≡ true) (λ row. unguarded (definition_table 1) (omega arith) others.indexes bare next row) (next 1) in
      let versions = all_weaker (λ r. AllByRecursion (λ s. rivals s r ≡ false) (next 2)) (λ row. passes Unique (schema_with others) next (version_table 2) row ≡ true)
      (λ row none. rw (any_none (λ s. rivals s row) (next 2) none) (unguarded (version_table 2) (omega arith) others.indexes bare next row)) (next 2) own in
      (meta, (definitions, (versions, theirs others.tables same was.1.1.1)))

-- the rows before have no two with one key either
pub unique_rows : (others : Others) (db : Trees) → Keeps Unique (schema_with others) db → Apart (db 2)
unique_rows others db keeps =
    all_weaker _ (λ r. AllByRecursion (λ s. rivals s r ≡ false) (db 2)) (λ r passed. none_any (λ s. rivals s r) (db 2) (not_true _ _ passed)) (db 2) keeps.1.1.0
  where
    not_true : (b rest : Bool) → (not b && rest) ≡ true → b ≡ false
    not_true true rest h = absurd cc
    not_true false rest h = refl

    none_any : {X : Type 0} (test : X → Bool) (xs : List X) → list_any test xs ≡ false → AllByRecursion (λ x. test x ≡ false) xs
    none_any test [] none = tt
    none_any test (x ∷ xs) none = let parts = or_parts _ _ none in (parts.0, none_any test xs parts.1)

pub with_same : (db : Trees) (tree : ℕ) → tree < 4 → (rows : List Row) (ts : List Table) → AllByRecursion IsApart ts → AllByRecursion (λ t. with_tree db tree rows t.tree ≡ db t.tree) ts
with_same db tree low rows [] apart = tt
with_same db tree low rows (t ∷ ts) apart =
    let far = apart.0.tree in
    let other : (t.tree == tree) ≡ false = grind (arith, nat_tests) in
    (rw other refl, with_same db tree low rows ts apart.1)

-- a database whose index is unique has no two versions of one key
pub database_apart : (db : Database) → HasStoreTables db.schema → IsDatabase db → Apart (db.trees 2)
database_apart db has sound = unique_rows has.others db.trees (subst (λ s. Keeps Unique s db.trees) has.schema_is (sound.obeys.rules Unique))

-- the versions of a sound database have keys of their own
pub own_of : (db : Database) (m : Records) → Represents db m → IsDatabase db → HaveOwnKeys m.versions
own_of db m was sound =
    ascending_weaker (λ (v w : Version). alike (stored w) (stored v) ≡ false) (λ (v w : Version). same_key v w ≡ false) (λ v w other. sym (alike-stored v w) ∙ other) m.versions
    (ascending_from_map (λ a b. alike b a ≡ false) stored m.versions (shown_differ (db.trees 2) (map stored m.versions) was.untied was.keyed (database_apart db was.schema sound) was.says.versions))
