-- A copy of a store, as it is written, one table after the other.
use Rattle.std.proofs.Common.{◌≡◌, ℕ, ◌+◌, ◌<◌, List, [], ◌∷◌, ◌++◌, map, filter, take, get_or, length, true, false, not, ◌&&◌, ◌==◌, refl, sym, ap, subst, ◌∙◌, append_assoc, arith, Some}
use Rattle.std.specs.Prelude.{nat_le}
use Rattle.std.specs.List.{All}
use Rattle.std.specs.List.Sorted.{IsPermutation}
use Rattle.std.proofs.Math.Path.{fun_ext}
use Rattle.std.proofs.lemmas.Bool.Decides.{nat_tests}
use Rattle.std.proofs.lemmas.List.{length-take, map-append, take_more}
use Rattle.std.proofs.lemmas.List.Sorted.{IsPermutation-refl, IsPermutation-sym, IsPermutation-trans, IsPermutation-map, IsPermutation-append, IsPermutation-filter_both, IsPermutation-to_front}
use Rattle.sqlite_trees.proofs.ListLemmas.{all-permutation, all_weaker, filter_all, filter_none}
use Rattle.sqlite.specs.Effect.{Database}
use Rattle.sqlite.specs.Held.{Held, state}
use Rattle.sqlite.specs.Store.{Ghosts}
use Rattle.period_core.specs.Encoding.{IsColumnValue, encoded}
use Rattle.period_core.specs.declared.version.VersionRow.{VersionRow}
use Rattle.catalog_core.specs.declared.table.TableDef.{TableDef}
use Rattle.catalog_core.specs.table.TableWords.{table_of}
use Rattle.version_tables.proofs.Goes.{twice}
use Rattle.version_tables.proofs.Rows.{permuted}
use Rattle.version_tables.specs.Represents.{Records, Represents, all_added, new_version, version}
use Rattle.version_tables.specs.declared.version_key.NewRow.{NewRow}
use Rattle.version_store.specs.Changed.{with_table}
use Rattle.version_store.specs.Copies.{with_tables, with_versions}
use Rattle.version_store.specs.Contents.{AreRowsOf, Contents, TableVersion, of_table, version_in}
use Rattle.version_store.specs.Copies.{HasCommitted, up_to}
use Rattle.version_store.specs.GoodStore.{HaveTables}
use Rattle.version_store.specs.StoreState.{IsOnlyRead, StoreState}
use Rattle.version_store.specs.Written.{Has, written, written_version}
use Rattle.version_store.proofs.Judged.{table_known}

-- ---- the order of versions does not matter

pub has_permuted : (db : Database) (c : Contents) (vs : List TableVersion) → IsPermutation c.versions vs → Has db c → Has db (record c { versions = vs })
has_permuted db c vs same has = record {
  rows = permuted db (written c) (map written_version vs) (IsPermutation-map written_version _ _ same) has.rows;
  definitions = has.definitions;
  values = all-permutation (λ (v : TableVersion). All IsColumnValue v.values) _ _ same has.values;
}

-- ---- a version is added

pub version_put : (old now : Database) (table : ℕ) (row : VersionRow) → All IsColumnValue row.values → (c : Contents) → Has old c
    → ((m : Records) → Represents old m → Represents now (all_added (written_version (version_in table row) ∷ []) m)) → Has now (with_versions table (row ∷ []) c)
version_put old now table row values c was made =
    let v = version_in table row in
    has_permuted now (record c { versions = v ∷ c.versions }) (c.versions ++ v ∷ []) (IsPermutation-sym _ _ (IsPermutation-to_front c.versions v))
    (record { rows = made (written c) was.rows; definitions = was.definitions; values = (values, was.values) })

-- a copied row as the statement adds it
pub row_put : (table n : ℕ) (row : VersionRow) (new : NewRow) (news : List NewRow) → n ≡ table → news ≡ new ∷ [] → new.key.values.items ≡ encoded row.values → new.key.start ≡ row.period.start → new.end ≡ row.period.end
    → map (new_version n row.from row.to) news ≡ written_version (version_in table row) ∷ []
row_put table n row new news is one values start end =
    ap (λ (m : ℕ). map (new_version m row.from row.to) news) is ∙ ap (λ l. map (new_version table row.from row.to) l) one
    ∙ ap (λ b. version table b new.key.start new.end row.from row.to ∷ []) values ∙ ap (λ s. version table (encoded row.values) s new.end row.from row.to ∷ []) start ∙ ap (λ e. version table (encoded row.values) row.period.start e row.from row.to ∷ []) end

pub versions_more : (table : ℕ) (rows : List VersionRow) (i : ℕ) (row : VersionRow) → i < length rows → row ≡ get_or rows i row → (c : Contents)
    → with_versions table (row ∷ []) (with_versions table (take i rows) c) ≡ with_versions table (take (i + 1) rows) c
versions_more table rows i row low is c =
    let f = version_in table in
    let more : take (i + 1) rows ≡ take i rows ++ row ∷ [] = take_more rows i row low ∙ ap (λ r. take i rows ++ r ∷ []) (sym is) in
    ap (λ vs. record c { versions = vs }) (append_assoc c.versions (map f (take i rows)) (f row ∷ []) ∙ ap (λ l. c.versions ++ l) (sym (map-append f (take i rows) (row ∷ [])) ∙ ap (map f) (sym more)))

-- ---- a definition is added

pub tables_more : (definitions : List TableDef) (i : ℕ) (d : TableDef) → i < length definitions → d ≡ get_or definitions i d → (c : Contents)
    → with_table d (with_tables (take i definitions) c) ≡ with_tables (take (i + 1) definitions) c
tables_more definitions i d low is c =
    let more : take (i + 1) definitions ≡ take i definitions ++ d ∷ [] = take_more definitions i d low ∙ ap (λ r. take i definitions ++ r ∷ []) (sym is) in
    ap (λ ts. record c { tables = ts }) (append_assoc c.tables (take i definitions) (d ∷ []) ∙ ap (λ l. c.tables ++ l) (sym more))

-- the number of a definition is the next
pub next_place : (definitions : List TableDef) (i : ℕ) → i < length definitions → (c : Contents) → c.tables ≡ [] → i + 1 ≡ length (with_tables (take i definitions) c).tables + 1
next_place definitions i low c none =
    let size : length (c.tables ++ take i definitions) ≡ length (take i definitions) = ap (λ (ts : List TableDef). length (ts ++ take i definitions)) none in
    let long = length-take i definitions in
    omega (arith, low, size, long)

-- ---- the versions of one table more

stays_below : (t k : ℕ) → (nat_le t (k + 1) && nat_le t k) ≡ nat_le t k
stays_below t k = grind (arith, nat_tests)

is_next : (t k : ℕ) → (nat_le t (k + 1) && not (nat_le t k)) ≡ (t == k + 1)
is_next t k = grind (arith, nat_tests)

pub one_table_more : (k : ℕ) (vs : List TableVersion) → IsPermutation (filter (λ v. nat_le v.table k) vs ++ of_table (k + 1) vs) (filter (λ v. nat_le v.table (k + 1)) vs)
one_table_more k vs =
    let p = λ (v : TableVersion). nat_le v.table k in
    let q = λ (v : TableVersion). nat_le v.table (k + 1) in
    let low : filter p (filter q vs) ≡ filter p vs = twice p q vs ∙ ap (λ t. filter t vs) (fun_ext (λ v. stays_below v.table k)) in
    let next : filter (λ v. not (p v)) (filter q vs) ≡ of_table (k + 1) vs = twice (λ v. not (p v)) q vs ∙ ap (λ t. filter t vs) (fun_ext (λ v. is_next v.table k)) in
    subst (λ l. IsPermutation l (filter q vs)) (ap (λ l. l ++ filter (λ v. not (p v)) (filter q vs)) low ∙ ap (λ l. filter p vs ++ l) next)
    (IsPermutation-sym _ _ (IsPermutation-filter_both p (λ v. not (p v)) (λ _. refl) (filter q vs)))

pub table_copied : {S : Type 0} (g : Ghosts S) (copy : Held S) (c : Contents) (k n : ℕ) (rows : List VersionRow) → n ≡ k + 1 → AreRowsOf c n rows → HasCommitted g copy (with_versions n rows (up_to k c)) → HasCommitted g copy (up_to n c)
table_copied g copy c k n rows is are has =
    let next : IsPermutation (of_table n c.versions) (of_table (k + 1) c.versions) = subst (λ (m : ℕ). IsPermutation (of_table n c.versions) (of_table m c.versions)) is (IsPermutation-refl _) in
    let all = IsPermutation-trans _ _ _ (IsPermutation-append _ _ _ _ (IsPermutation-refl (up_to k c).versions) (IsPermutation-trans _ _ _ (IsPermutation-sym _ _ are.all) next)) (one_table_more k c.versions) in
    let db = (state g copy).now in
    record { now = subst (λ (m : ℕ). Has db (up_to m c)) (sym is) (has_permuted db (with_versions n rows (up_to k c)) (up_to (k + 1) c).versions all has.now); committed = has.committed }

-- ---- nothing is changed

pub only_read_same : {S : Type 0} (g : Ghosts S) (store : StoreState S) → IsOnlyRead g store store
only_read_same g store = record {
  catalog = refl;
  clock = refl;
  usable = λ usable. usable;
  same = λ usable. (refl, refl);
  faults = record { faults = omega arith; limit = refl };
}

-- ---- no table, and all tables

module _ (c : Contents) (tabled : HaveTables c) where
  pub up_to_none : up_to 0 c ≡ record c { versions = [] }
  up_to_none = ap (λ (vs : List TableVersion). record c { versions = vs })
      (filter_none (λ (v : TableVersion). nat_le v.table 0) c.versions
      (all_weaker (λ (v : TableVersion). (d : TableDef) × (table_of c.tables v.table ≡ Some d)) (λ (v : TableVersion). nat_le v.table 0 ≡ false) (λ v there. let known = table_known c.tables v.table there.0 there.1 in grind (arith, nat_tests, known)) c.versions tabled))

  pub up_to_all : (n : ℕ) → n ≡ length c.tables → up_to n c ≡ c
  up_to_all n is = ap (λ (vs : List TableVersion). record c { versions = vs })
      (filter_all (λ (v : TableVersion). nat_le v.table n) c.versions
      (all_weaker (λ (v : TableVersion). (d : TableDef) × (table_of c.tables v.table ≡ Some d)) (λ (v : TableVersion). nat_le v.table n ≡ true) (λ v there. let known = table_known c.tables v.table there.0 there.1 in grind (arith, nat_tests, known, is)) c.versions tabled))
