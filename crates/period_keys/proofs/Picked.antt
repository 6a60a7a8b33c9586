-- Entries in a range that are found one after another, and something picked of each.
use Rattle.std.proofs.Common.{◌≡◌, ◌++◌, ◌∷◌, [], ◌∙◌, ℕ, Bool, true, false, cond, List, filter, refl, sym, ap, append-nil, append_assoc, map, subst}
use Rattle.std.specs.List.{AllByRecursion}
use Rattle.std.specs.List.Sorted.{IsStrictlySortedBy}
use Rattle.std.specs.Map.{keys_of}
use Rattle.std.specs.BTreeMap.{BTreeMap}
use Rattle.std.proofs.lemmas.List.{map-append}
use Rattle.std.proofs.lemmas.List.Elements.{filter-append}
use Rattle.period_core.specs.Order.{values_cmp}
use Rattle.period_core.specs.declared.value.Value.{Value}
use Rattle.period_core.specs.declared.version.VersionRow.{VersionRow}
use Rattle.period_keys.specs.declared.key_range.KeyRange.{KeyRange}
use Rattle.period_keys.specs.declared.key_rows.KeyRows.{KeyRows}
use Rattle.period_keys.specs.Ranges.{is_in_range}
use Rattle.period_keys.specs.Rows.{AreGrouped, HaveKey, rows_of_groups, rows_of_lists}
use Rattle.period_keys.specs.Versions.{has_key_in}
use Rattle.period_keys.proofs.Grouped.{Entries, each_alike, lists_of_groups, rows_in}
use Rattle.period_keys.proofs.Ranged.{StopsAt, first_in, is_from, is_in}

-- something is picked of each entry in the range, but for the entries that are left
pub record HasPicked {V X : Type 0} (range : KeyRange) (pick : List Value × V → X) (entries left : List (List Value × V)) (found : List X) : Type 0 where
  pub seen : List (List Value × V)
  pub split : entries ≡ seen ++ left
  pub picked : found ≡ map pick (filter (is_in range) seen)

module _ {V X : Type 0} (range : KeyRange) (pick : List Value × V → X) {entries left rest : List (List Value × V)} {e : List Value × V} where
  shorter : (seen : List (List Value × V)) → left ≡ e ∷ rest → entries ≡ seen ++ left → entries ≡ (seen ++ e ∷ []) ++ rest
  shorter seen is split = split ∙ ap (λ (es : List (List Value × V)). seen ++ es) is ∙ sym (append_assoc seen (e ∷ []) rest)

  -- the next entry is in the range
  pub picked_more : {before after : List X} → left ≡ e ∷ rest → is_in range e ≡ true → after ≡ before ++ pick e ∷ [] → HasPicked range pick entries left before → HasPicked range pick entries rest after
  picked_more is inside added h = record {
    seen = h.seen ++ e ∷ [];
    split = shorter h.seen is h.split;
    picked = added ∙ ap (λ (xs : List X). xs ++ pick e ∷ []) h.picked ∙ sym (map-append pick (filter (is_in range) h.seen) (e ∷ []))
        ∙ ap (map pick) (sym (filter-append (is_in range) h.seen (e ∷ []) ∙ ap (λ (t : Bool). filter (is_in range) h.seen ++ cond t (e ∷ []) []) inside));
  }

  -- the next entry is not in the range
  pub picked_same : {found : List X} → left ≡ e ∷ rest → is_in range e ≡ false → HasPicked range pick entries left found → HasPicked range pick entries rest found
  picked_same is outside h = record {
    seen = h.seen ++ e ∷ [];
    split = shorter h.seen is h.split;
    picked = h.picked ∙ ap (map pick) (sym (filter-append (is_in range) h.seen (e ∷ []) ∙ ap (λ (t : Bool). filter (is_in range) h.seen ++ cond t (e ∷ []) []) outside ∙ append-nil (filter (is_in range) h.seen)));
  }

-- no entry in the range is left, if the next one ends the search
pub picked_all : {V X : Type 0} (range : KeyRange) (pick : List Value × V → X) (entries : List (List Value × V)) {left rest : List (List Value × V)} {found : List X} → IsStrictlySortedBy values_cmp (keys_of entries) → left ≡ rest → StopsAt range rest
    → HasPicked range pick (filter (is_from range) entries) left found → found ≡ map pick (filter (is_in range) entries)
picked_all range pick entries {left} {rest} ordered is stops h = h.picked ∙ ap (map pick) (sym (first_in range entries h.seen left ordered h.split (subst (StopsAt range) (sym is) stops)))

module _ (range : KeyRange) where
  module _ (positions : List ℕ) where
    -- the rows of the groups whose keys are in the range
    ranged_rows : (groups : Entries) → AllByRecursion (HaveKey positions) groups → filter (has_key_in positions range) (rows_of_groups groups) ≡ rows_of_groups (filter (is_in range) groups)
    ranged_rows [] keyed = refl
    ranged_rows (group ∷ groups) keyed =
        filter-append (has_key_in positions range) (rows_in group.1) (rows_of_groups groups)
        ∙ ap (λ (xs : List VersionRow). xs ++ filter (has_key_in positions range) (rows_of_groups groups))
        (each_alike (has_key_in positions range) (is_in range group) (rows_in group.1) (λ v c. ap (is_in_range range) (sym (keyed.0 v c))))
        ∙ by_test (is_in range group) (ranged_rows groups keyed.1)
      where
        by_test : (t : Bool) → filter (has_key_in positions range) (rows_of_groups groups) ≡ rows_of_groups (filter (is_in range) groups)
            → cond t (rows_in group.1) [] ++ filter (has_key_in positions range) (rows_of_groups groups) ≡ rows_of_groups (cond t (group ∷ filter (is_in range) groups) (filter (is_in range) groups))
        by_test true rest = ap (λ (xs : List VersionRow). rows_in group.1 ++ xs) rest
        by_test false rest = rest

    pub rows_found : (groups : BTreeMap (List Value) KeyRows) (found : List KeyRows) → AreGrouped positions groups → found ≡ map (λ (group : List Value × KeyRows). group.1) (filter (is_in range) groups.entries)
        → rows_of_lists found ≡ filter (has_key_in positions range) (rows_of_groups groups.entries)
    rows_found groups found grouped is = ap rows_of_lists is ∙ lists_of_groups (filter (is_in range) groups.entries) ∙ sym (ranged_rows groups.entries grouped.keyed)
