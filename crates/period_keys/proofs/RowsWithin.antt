-- The rows of a table that are looked at for a range of values: by the key, by a secondary index, or all.
use Rattle.std.proofs.Common.{◌≡◌, ◌++◌, ◌∷◌, [], ◌∙◌, ◌≤◌, ℕ, Bool, true, false, cond, List, length, drop, take, filter, refl, sym, ap, subst}
use Rattle.std.specs.Prelude.{◌||◌, IsPermutation}
use Rattle.std.specs.List.{Contains}
use Rattle.std.specs.BTreeMap.{BTreeMap, get}
use Rattle.std.specs.Option.{option_map_or}
use Rattle.std.specs.Ordering.{eq_by_cmp}
use Rattle.std.proofs.lemmas.Bool.{false≢true}
use Rattle.std.proofs.lemmas.List.Elements.{Contains-append_right}
use Rattle.std.proofs.lemmas.List.Folds.{list_any-from_Any}
use Rattle.std.proofs.lemmas.List.Sorted.{Contains-permutation, IsPermutation-sym}
use Rattle.period_core.specs.Order.{values_cmp}
use Rattle.period_core.specs.OrderLaws.{values_eq}
use Rattle.period_core.specs.declared.value.Value.{Value}
use Rattle.period_core.specs.declared.version.VersionRow.{VersionRow}
use Rattle.temporal_model.proofs.Members.{Contains-here, Contains-there}
use Rattle.period_keys.specs.declared.key_range.KeyRange.{KeyRange}
use Rattle.period_keys.specs.declared.key_rows.KeyRows.{KeyRows}
use Rattle.period_keys.specs.declared.row_range.RowRange.{RowRange}
use Rattle.period_keys.specs.declared.secondary_index.SecondaryIndex.{SecondaryIndex}
use Rattle.period_keys.specs.Ranges.{is_in_range}
use Rattle.period_keys.specs.Rows.{AreGrouped, RowsByKey, rows_of_groups, rows_within}
use Rattle.period_keys.specs.Secondary.{AreRowsWithin, HasEntries, HaveEntries, is_of_some_key, keys_within}
use Rattle.period_keys.specs.Versions.{has_key_in, is_of_key, version_key}
use Rattle.period_keys.proofs.EntryKeys.{entries_of_fewer, has_own_key}
use Rattle.period_keys.proofs.Grouped.{each_alike, group_of_key, rows_in}
use Rattle.period_keys.proofs.Members.{some_member}
use Rattle.period_keys.proofs.Partly.{put_back}

-- two tests that agree at each member keep the same members
kept_alike : {X : Type 0} (p q : X → Bool) (xs : List X) → ((x : X) → Contains xs x → p x ≡ q x) → filter p xs ≡ filter q xs
kept_alike p q [] agree = refl
kept_alike {X} p q (x ∷ xs) agree =
    ap (λ (t : Bool). cond t (x ∷ filter p xs) (filter p xs)) (agree x (Contains-here x xs))
    ∙ ap (λ (more : List X). cond (q x) (x ∷ more) more) (kept_alike p q xs (λ y there. agree y (Contains-there x xs y there)))

pub within_all : (rows : RowRange) (table : RowsByKey) (all : KeyRange) (found : List VersionRow) → ((key : List Value) → is_in_range all key ≡ true) → found ≡ rows_within table all → AreRowsWithin rows table.rows found
within_all rows table all found has is = record {
  keep = has_key_in table.positions all;
  kept = λ v inside. has (version_key table.positions v);
  are_kept = is;
}

pub within_by_index :
    (rows : RowRange) (table : RowsByKey) (index : SecondaryIndex) (keys : List (List Value)) (found : List VersionRow) → index.positions ≡ rows.positions → HasEntries table.positions table.rows index
    → length rows.positions ≤ length rows.range.leading.items → keys ≡ keys_within index rows.range → found ≡ filter (is_of_some_key table.positions keys) table.rows → AreRowsWithin rows table.rows found
within_by_index rows table index keys found same has whole keys_are is = record {
  keep = λ v. has_key_in rows.positions rows.range v || is_of_some_key table.positions keys v;
  kept = λ v inside. ap (λ (t : Bool). t || is_of_some_key table.positions keys v) inside;
  are_kept = is ∙ kept_alike (is_of_some_key table.positions keys) (λ v. has_key_in rows.positions rows.range v || is_of_some_key table.positions keys v) table.rows (λ v there. by_test v there (has_key_in rows.positions rows.range v) refl);
} where
  fixed : length index.positions ≤ length rows.range.leading.items
  fixed = subst (λ (ps : List ℕ). length ps ≤ length rows.range.leading.items) (sym same) whole

  by_test : (v : VersionRow) → Contains table.rows v → (t : Bool) → has_key_in rows.positions rows.range v ≡ t → is_of_some_key table.positions keys v ≡ (t || is_of_some_key table.positions keys v)
  by_test v there true inside =
      let own : List Value = version_key table.positions v in
      let at : has_key_in index.positions rows.range v ≡ true = ap (λ (ps : List ℕ). has_key_in ps rows.range v) same ∙ inside in
      let among : Contains keys own = subst (λ (ks : List (List Value)). Contains ks own) (sym keys_are) (has_own_key index rows.range table.positions table.rows v has fixed there at) in
      list_any-from_Any (λ (key : List Value). eq_by_cmp values_cmp key own) keys (some_member (λ (key : List Value). eq_by_cmp values_cmp key own ≡ true) keys own among ((values_eq own own).1 refl))
  by_test v there false inside = refl

-- ---- indexes after a change

pub entries_moved : (key other : List ℕ) (old new : List VersionRow) (indexes : List SecondaryIndex) → other ≡ key → IsPermutation new old → HaveEntries key old indexes → HaveEntries other new indexes
entries_moved key other old new indexes same moved have =
    subst (λ (ps : List ℕ). HaveEntries ps new indexes) (sym same) (entries_of_fewer key old new indexes (λ v there. Contains-permutation new old v moved there) have)

pub entries_left : (key other : List ℕ) (old new first rest : List VersionRow) (indexes : List SecondaryIndex) → other ≡ key → IsPermutation old (first ++ rest) → IsPermutation new rest → HaveEntries key old indexes → HaveEntries other new indexes
entries_left key other old new first rest indexes same was is have =
    subst (λ (ps : List ℕ). HaveEntries ps new indexes) (sym same)
    (entries_of_fewer key old new indexes (λ v there. Contains-permutation (first ++ rest) old v (IsPermutation-sym old (first ++ rest) was) (Contains-append_right first rest v (Contains-permutation new rest v is there))) have)

-- indexes of a slice, written back to its vector
pub entries_back : (key other : List ℕ) (old now : List VersionRow) (n : ℕ) (items given new : List SecondaryIndex) → given ≡ items → length given ≡ n → length new ≡ length given → (HaveEntries key old given → HaveEntries other now new)
    → HaveEntries key old items → HaveEntries other now (take n (new ++ drop (length new) items))
entries_back key other old now n items given new is size same step have =
    subst (HaveEntries other now) (sym (put_back n items given new is size same)) (step (subst (HaveEntries key old) (sym is) have))

-- ---- a range that has one key alone

module _ (positions : List ℕ) (range : KeyRange) (key : List Value) (groups : BTreeMap (List Value) KeyRows) (grouped : AreGrouped positions groups)
    (whole : (v : VersionRow) → has_key_in positions range v ≡ true → version_key positions v ≡ key) where
  -- rows in the range are those of the key, if it has this one
  pub rows_of_whole : is_in_range range key ≡ true → filter (has_key_in positions range) (rows_of_groups groups.entries) ≡ option_map_or rows_in (get values_cmp groups key) []
  rows_of_whole inside =
      kept_alike (has_key_in positions range) (is_of_key positions key) (rows_of_groups groups.entries) (λ v there. by_tests v (has_key_in positions range v) (is_of_key positions key v) refl refl)
      ∙ group_of_key positions key groups grouped
    where
      by_tests : (v : VersionRow) (a b : Bool) → has_key_in positions range v ≡ a → is_of_key positions key v ≡ b → a ≡ b
      by_tests v true true is same = refl
      by_tests v true false is other = absurd (false≢true (sym other ∙ (values_eq key (version_key positions v)).1 (sym (whole v is))))
      by_tests v false true is same = absurd (false≢true (sym is ∙ subst (λ (k : List Value). is_in_range range k ≡ true) ((values_eq key (version_key positions v)).0 same) inside))
      by_tests v false false is other = refl

  -- without the key there are none
  pub no_rows_of_whole : is_in_range range key ≡ false → filter (has_key_in positions range) (rows_of_groups groups.entries) ≡ []
  no_rows_of_whole outside = each_alike (has_key_in positions range) false (rows_of_groups groups.entries) (λ v there. by_test v (has_key_in positions range v) refl)
    where
      by_test : (v : VersionRow) (b : Bool) → has_key_in positions range v ≡ b → b ≡ false
      by_test v true is = absurd (false≢true (sym outside ∙ subst (λ (k : List Value). is_in_range range k ≡ true) (whole v is) is))
      by_test v false is = refl
