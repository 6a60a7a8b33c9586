-- The rows in memory as they are loaded, table by table.
use Rattle.std.proofs.Common.{◌≡◌, ◌<◌, ◌≤◌, ◌+◌, ◌==◌, ◌++◌, ◌∷◌, ◌∙◌, ℕ, zero, suc, Bool, true, false, List, [], None, Some, eqb-true, get_or, length, map, nat_lt, refl, sym, ap, ap₂, subst, take, take_all, length-append, arith}
use Rattle.std.specs.List.{filter}
use Rattle.std.specs.List.Sorted.{IsPermutation}
use Rattle.std.specs.Option.{option_map_or}
use Rattle.std.proofs.lemmas.Bool.Decides.{nat_tests}
use Rattle.std.proofs.lemmas.List.{map-append, take_more}
use Rattle.std.proofs.lemmas.List.Sorted.{IsPermutation-map, IsPermutation-refl, IsPermutation-trans}
use Rattle.std.proofs.lemmas.Option.{none-some, slice_get_past}
use Rattle.sqlite_trees.proofs.ListLemmas.{IsPermutation-filter, all_weaker, filter-map, filter_none}
use Rattle.period_core.specs.declared.version.VersionRow.{VersionRow}
use Rattle.period_core.specs.Windows.{window_sees}
use Rattle.period_core.specs.declared.window.Window.TheVariants.{Now}
use Rattle.catalog_core.specs.declared.table.TableDef.{TableDef}
use Rattle.catalog_core.specs.table.TableWords.{table_of}
use Rattle.period_keys.specs.Lawful.{key_positions}
use Rattle.period_keys.specs.Rows.{RowsByKey}
use Rattle.version_store.specs.Contents.{Contents, TableVersion, of_table, version_in}
use Rattle.version_store.specs.GoodStore.{HaveTables}
use Rattle.version_store.specs.Scans.{seen_of}
use Rattle.script_engine.specs.engine.Ended.{is_current}
use Rattle.script_engine.specs.engine.InMemory.{AreCurrentOf, HaveCurrentRows, keys_in, rows_in}

-- ---- one table

-- the versions of a table that are current, in any order
pub current_loaded : (c : Contents) (number : ℕ) (rows loaded : List VersionRow) → IsPermutation (of_table number c.versions) (map (version_in number) rows) → IsPermutation (filter is_current rows) loaded → AreCurrentOf c number loaded
current_loaded c number rows loaded are same =
    let sees = λ (v : TableVersion). window_sees Now v.from v.to in
    IsPermutation-trans (seen_of number Now c.versions) (map (version_in number) (filter is_current rows)) (map (version_in number) loaded)
    (subst (IsPermutation (seen_of number Now c.versions)) (filter-map sees (version_in number) rows) (IsPermutation-filter sees (of_table number c.versions) (map (version_in number) rows) are))
    (IsPermutation-map (version_in number) (filter is_current rows) loaded same)

-- ---- the first tables

abbrev its_rows : RowsByKey → List VersionRow
its_rows t = t.rows

abbrev its_key : RowsByKey → List ℕ
its_key t = t.positions

-- the rows of the first tables are loaded
pub record AreLoaded (c : Contents) (count : ℕ) (tables : List RowsByKey) : Type 0 where
  pub long : length tables ≡ count
  pub keys : keys_in tables ≡ map key_positions (take count c.tables)
  pub rows : (place : ℕ) → place < count → AreCurrentOf c (suc place) (rows_in tables (suc place))

before_last : (ts : List RowsByKey) (t : RowsByKey) (place : ℕ) → place < length ts → rows_in (ts ++ t ∷ []) (suc place) ≡ rows_in ts (suc place)
before_last [] t place inside = absurd (omega arith)
before_last (x ∷ ts) t zero inside = refl
before_last (x ∷ ts) t (suc place) inside = before_last ts t place (omega arith)

the_last : (ts : List RowsByKey) (t : RowsByKey) → rows_in (ts ++ t ∷ []) (suc (length ts)) ≡ t.rows
the_last [] t = refl
the_last (x ∷ ts) t = the_last ts t

pub one_loaded : (c : Contents) (count : ℕ) (ts : List RowsByKey) (t : RowsByKey) (d : TableDef) → AreLoaded c count ts → count < length c.tables → t.positions ≡ key_positions (get_or c.tables count d) → AreCurrentOf c (count + 1) t.rows →
    AreLoaded c (count + 1) (ts ++ t ∷ [])
one_loaded c count ts t d was inside key are = record {
  long = (let long = was.long in omega (arith, length-append ts (t ∷ [])));
  keys =
      map-append its_key ts (t ∷ [])
      ∙ ap₂ (λ (a : List (List ℕ)) (b : List ℕ). a ++ b ∷ []) was.keys key
      ∙ sym (map-append key_positions (take count c.tables) (get_or c.tables count d ∷ []))
      ∙ ap (map key_positions) (sym (take_more c.tables count d inside));
  rows = at;
}
  where
    at : (place : ℕ) → place < count + 1 → AreCurrentOf c (suc place) (rows_in (ts ++ t ∷ []) (suc place))
    at place below = by_test (nat_lt place count) refl
      where
        by_test : (b : Bool) → nat_lt place count ≡ b → AreCurrentOf c (suc place) (rows_in (ts ++ t ∷ []) (suc place))
        by_test true e =
            let lower : place < count = grind (arith, nat_tests, e) in
            let long = was.long in
            subst (AreCurrentOf c (suc place)) (sym (before_last ts t place (omega arith))) (was.rows place lower)
        by_test false e =
            let here : place ≡ count = (let off : place < count → ⊥ = (λ lower. grind (arith, nat_tests, e, lower)) in omega arith) in
            let long = was.long in
            let last : length ts ≡ place = omega arith in
            let number : count + 1 ≡ suc place = omega arith in
            let rows : t.rows ≡ rows_in (ts ++ t ∷ []) (suc place) = sym (the_last ts t) ∙ ap (λ (n : ℕ). rows_in (ts ++ t ∷ []) (suc n)) last in
            subst (λ (n : ℕ). AreCurrentOf c n (rows_in (ts ++ t ∷ []) (suc place))) number (subst (AreCurrentOf c (count + 1)) rows are)

-- ---- all tables

-- no version belongs to a table that does not exist
of_none : (c : Contents) (number : ℕ) (v : TableVersion) → table_of c.tables number ≡ None → (d : TableDef) × (table_of c.tables v.table ≡ Some d) → (v.table == number) ≡ false
of_none c number v none there = go (v.table == number) refl
  where
    go : (b : Bool) → (v.table == number) ≡ b → b ≡ false
    go true here =
        let at : v.table ≡ number = eqb-true v.table number here in
        absurd (none-some there.0 (sym none ∙ ap (table_of c.tables) (sym at) ∙ there.1))
    go false off = refl

pub none_there : (c : Contents) (number : ℕ) → table_of c.tables number ≡ None → HaveTables c → of_table number c.versions ≡ []
none_there c number none tabled =
    filter_none (λ (v : TableVersion). v.table == number) c.versions
    (all_weaker (λ (v : TableVersion). (d : TableDef) × (table_of c.tables v.table ≡ Some d)) (λ (v : TableVersion). (v.table == number) ≡ false) (λ v is. of_none c number v none is) c.versions tabled)

none_current : (c : Contents) (number : ℕ) (rows : List VersionRow) → table_of c.tables number ≡ None → HaveTables c → rows ≡ [] → AreCurrentOf c number rows
none_current c number rows none tabled empty =
    subst (AreCurrentOf c number) (sym empty)
    (subst (λ (vs : List TableVersion). IsPermutation (filter (λ (v : TableVersion). window_sees Now v.from v.to) vs) []) (sym (none_there c number none tabled)) (IsPermutation-refl []))

pub all_loaded : (c : Contents) (count : ℕ) (ts : List RowsByKey) → length c.tables ≤ count → AreLoaded c count ts → HaveTables c → HaveCurrentRows c ts
all_loaded c count ts all loaded tabled = record {
  keys = loaded.keys ∙ ap (map key_positions) (take_all count c.tables (omega arith));
  rows = at;
}
  where
    at : (number : ℕ) → AreCurrentOf c number (rows_in ts number)
    at zero = none_current c zero [] refl tabled refl
    at (suc place) = by_test (nat_lt place count) refl
      where
        by_test : (b : Bool) → nat_lt place count ≡ b → AreCurrentOf c (suc place) (rows_in ts (suc place))
        by_test true e = loaded.rows place (grind (arith, nat_tests, e))
        by_test false e =
            let off : count ≤ place = (let out : place < count → ⊥ = (λ lower. grind (arith, nat_tests, e, lower)) in omega arith) in
            let long = loaded.long in
            none_current c (suc place) (rows_in ts (suc place)) (slice_get_past c.tables place (omega arith)) tabled
            (ap (λ o. option_map_or its_rows o []) (slice_get_past ts place (omega arith)))
