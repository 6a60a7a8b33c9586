-- The rows in memory after each step: they remain the current versions of the store.
use Rattle.std.proofs.Common.{◌≡◌, ◌++◌, ◌∷◌, ◌∙◌, ℕ, zero, suc, Bool, true, false, List, [], Option, None, Some, map, nat_eq, refl, set, sym, ap, ap₂, subst, arith}
use Rattle.std.specs.List.{filter, slice_get}
use Rattle.std.specs.List.Sorted.{IsPermutation}
use Rattle.std.specs.Option.{option_map_or}
use Rattle.std.proofs.lemmas.Bool.Decides.{nat_tests}
use Rattle.std.proofs.lemmas.List.{map-append}
use Rattle.std.proofs.lemmas.List.Sorted.{IsPermutation-map, IsPermutation-sym, IsPermutation-trans}
use Rattle.period_core.specs.declared.version.VersionRow.{VersionRow}
use Rattle.period_core.specs.Windows.{window_sees}
use Rattle.period_core.specs.declared.window.Window.TheVariants.{Now}
use Rattle.catalog_core.specs.declared.table.TableDef.{TableDef}
use Rattle.catalog_core.specs.table.TableWords.{table_of}
use Rattle.period_keys.specs.Lawful.{key_positions}
use Rattle.period_keys.specs.Rows.{HasRows, RowsByKey}
use Rattle.version_store.specs.Changed.{with_table}
use Rattle.version_store.specs.Contents.{Contents, TableVersion, of_table, version_in}
use Rattle.version_store.specs.Scans.{seen_of}
use Rattle.script_engine.specs.engine.InMemory.{AreCurrentOf, HaveCurrentRows, HaveRows, keys_in, rows_in}

-- ---- the rows of a number

abbrev its_rows : RowsByKey → List VersionRow
its_rows t = t.rows

abbrev its_key : RowsByKey → List ℕ
its_key t = t.positions

pub some_rows : (ts : List RowsByKey) (number : ℕ) (t : RowsByKey) → table_of ts number ≡ Some t → rows_in ts number ≡ t.rows
some_rows ts number t there = ap (λ (o : Option RowsByKey). option_map_or its_rows o []) there

pub no_rows : (ts : List RowsByKey) (number : ℕ) → table_of ts number ≡ None → rows_in ts number ≡ []
no_rows ts number there = ap (λ (o : Option RowsByKey). option_map_or its_rows o []) there

-- ---- a table more, without rows

more_at : (ts : List RowsByKey) (t : RowsByKey) (place : ℕ) → t.rows ≡ [] → rows_in (ts ++ t ∷ []) (suc place) ≡ rows_in ts (suc place)
more_at [] t zero none = none
more_at [] t (suc place) none = refl
more_at (x ∷ ts) t zero none = refl
more_at (x ∷ ts) t (suc place) none = more_at ts t place none

more_rows : (ts : List RowsByKey) (t : RowsByKey) (number : ℕ) → t.rows ≡ [] → rows_in (ts ++ t ∷ []) number ≡ rows_in ts number
more_rows ts t zero none = refl
more_rows ts t (suc place) none = more_at ts t place none

pub current-created : (c : Contents) (ts : List RowsByKey) (definition : TableDef) (t : RowsByKey) → HaveCurrentRows c ts → t.positions ≡ key_positions definition → t.rows ≡ [] →
    HaveCurrentRows (with_table definition c) (ts ++ t ∷ [])
current-created c ts definition t was key none = record {
  keys =
      map-append its_key ts (t ∷ [])
      ∙ ap₂ (λ (a : List (List ℕ)) (b : List ℕ). a ++ b ∷ []) was.keys key
      ∙ sym (map-append key_positions c.tables (definition ∷ []));
  rows = λ number. subst (AreCurrentOf c number) (sym (more_rows ts t number none)) (was.rows number);
}

-- ---- the rows of one table, written

set_keys : (ts : List RowsByKey) (place : ℕ) (old new : RowsByKey) → slice_get ts place ≡ Some old → new.positions ≡ old.positions → keys_in (set ts place new) ≡ keys_in ts
set_keys [] place old new there same = cc
set_keys (x ∷ ts) zero old new there same =
    let is : x ≡ old = cc in
    ap (λ (p : List ℕ). p ∷ keys_in ts) (same ∙ ap its_key (sym is))
set_keys (x ∷ ts) (suc place) old new there same = ap (λ (l : List (List ℕ)). x.positions ∷ l) (set_keys ts place old new there same)

set_here : (ts : List RowsByKey) (place : ℕ) (old new : RowsByKey) → slice_get ts place ≡ Some old → rows_in (set ts place new) (suc place) ≡ new.rows
set_here [] place old new there = cc
set_here (x ∷ ts) zero old new there = refl
set_here (x ∷ ts) (suc place) old new there = set_here ts place old new there

set_elsewhere : (ts : List RowsByKey) (place other : ℕ) (new : RowsByKey) → (other ≡ place → ⊥) → rows_in (set ts place new) (suc other) ≡ rows_in ts (suc other)
set_elsewhere [] place other new off = refl
set_elsewhere (x ∷ ts) zero zero new off = absurd (off refl)
set_elsewhere (x ∷ ts) zero (suc other) new off = refl
set_elsewhere (x ∷ ts) (suc place) zero new off = refl
set_elsewhere (x ∷ ts) (suc place) (suc other) new off = set_elsewhere ts place other new (λ same. off (ap suc same))

pub have_rows_set : (ts : List RowsByKey) (place : ℕ) (old new : RowsByKey) (wanted : List VersionRow) → slice_get ts place ≡ Some old → HasRows wanted old new → HaveRows (suc place) wanted ts (set ts place new)
have_rows_set ts place old new wanted there has = record {
  keys = set_keys ts place old new there has.positions;
  there = subst (λ (l : List VersionRow). IsPermutation l wanted) (sym (set_here ts place old new there)) has.rows;
  others = others;
}
  where
    others : (other : ℕ) → (other ≡ suc place → ⊥) → rows_in (set ts place new) other ≡ rows_in ts other
    others zero off = refl
    others (suc other) off = set_elsewhere ts place other new (λ same. off (ap suc same))

-- ---- a table's versions have changed, and its rows in memory with them

pub current_along : (c : Contents) (table : ℕ) (rows others : List VersionRow) → AreCurrentOf c table rows → IsPermutation rows others → AreCurrentOf c table others
current_along c table rows others are same = IsPermutation-trans (seen_of table Now c.versions) (map (version_in table) rows) (map (version_in table) others) are (IsPermutation-map (version_in table) rows others same)

pub current-changed : (c after : Contents) (table : ℕ) (wanted : List VersionRow) (old new : List RowsByKey) → HaveRows table wanted old new → HaveCurrentRows c old →
    after.tables ≡ c.tables → AreCurrentOf after table wanted → ((other : ℕ) → (other ≡ table → ⊥) → of_table other after.versions ≡ of_table other c.versions) → HaveCurrentRows after new
current-changed c after table wanted old new made was tables are elsewhere = record {
  keys = made.keys ∙ was.keys ∙ sym (ap (map key_positions) tables);
  rows = λ number. at number (nat_eq number table) refl;
}
  where
    at : (number : ℕ) (b : Bool) → nat_eq number table ≡ b → AreCurrentOf after number (rows_in new number)
    at number true here =
        let is : table ≡ number = grind (arith, nat_tests, here) in
        subst (λ (n : ℕ). AreCurrentOf after n (rows_in new n)) is (current_along after table wanted (rows_in new table) are (IsPermutation-sym (rows_in new table) wanted made.there))
    at number false off =
        let away : number ≡ table → ⊥ = λ same. let here : nat_eq number table ≡ true = grind (arith, nat_tests, same) in cc in
        subst (λ (rows : List VersionRow). AreCurrentOf after number rows) (sym (made.others number away))
        (subst (λ (vs : List TableVersion). IsPermutation (filter (λ (v : TableVersion). window_sees Now v.from v.to) vs) (map (version_in number) (rows_in old number))) (sym (elsewhere number away)) (was.rows number))

-- rows that are the old ones in any order are no change
pub current-kept : (c : Contents) (table : ℕ) (old new : List RowsByKey) → HaveRows table (rows_in old table) old new → HaveCurrentRows c old → HaveCurrentRows c new
current-kept c table old new same was = current-changed c c table (rows_in old table) old new same was refl (was.rows table) (λ other off. refl)
