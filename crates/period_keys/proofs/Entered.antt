-- The rows of groups after a write through the entry of one key, which may be new.
use Rattle.std.proofs.Common.{◌≡◌, ◌++◌, ◌∷◌, [], ◌∙◌, ℕ, cond, Some, None, List, inl, inr, refl, sym, ap, subst, arith}
use Rattle.std.specs.Prelude.{◌⊎◌, Option, Contains, IsPermutation, unwrap_or}
use Rattle.std.specs.List.{AllByRecursion}
use Rattle.std.specs.List.Sorted.{IsStrictlySortedBy}
use Rattle.std.specs.Map.{keys_of, lookup, set_value}
use Rattle.std.specs.Ordering.{is_eq, match_ordering}
use Rattle.std.specs.declared.cmp.Ordering.{Ordering}
use Rattle.std.specs.declared.cmp.Ordering.TheVariants.{Less, Equal, Greater}
use Rattle.std.specs.BTreeMap.{IsOrdered, get, insert_entry, is_at}
use Rattle.std.proofs.lemmas.List.Sorted.{IsPermutation-append_right, IsPermutation-trans}
use Rattle.std.proofs.lemmas.Map.Entries.{lookup_at_gap}
use Rattle.period_core.specs.Order.{values_cmp}
use Rattle.period_core.specs.OrderLaws.{values_cmp_total}
use Rattle.period_core.specs.declared.value.Value.{Value}
use Rattle.period_core.specs.declared.version.VersionRow.{VersionRow}
use Rattle.temporal_model.proofs.Members.{Contains-nil}
use Rattle.period_keys.specs.declared.key_rows.KeyRows.{KeyRows}
use Rattle.period_keys.specs.Rows.{AreGrouped, HaveKey, rows_of_groups}
use Rattle.period_keys.specs.Versions.{version_key}
use Rattle.period_keys.proofs.Grouped.{Entries, Groups, changed_before, grouped_after, inserted_group, keyed_inserted, rows_in, unmoved, written}

-- the entries of the groups, with a group at a key that they had or had not
pub record Enters (m : Groups) (key : List Value) (w : KeyRows) (es : Entries) : Type 0 where
  pub was_ordered : IsOrdered values_cmp m
  pub entries : es ≡ insert_entry values_cmp m.entries key w

-- ---- a key that exists

found_none : (es : Entries) (k : List Value) (v : KeyRows) → lookup (is_at (values_cmp k)) es ≡ Some v → lookup (is_at (values_cmp k)) es ≡ None → ⊥
found_none es k v found none = (let e : Some v ≡ None = sym found ∙ none in cc)

-- a key below the first entry's is no entry's
below_first : (e : List Value × KeyRows) (es : Entries) (k : List Value) → IsStrictlySortedBy values_cmp (keys_of (e ∷ es)) → values_cmp k e.0 ≡ Less → lookup (is_at (values_cmp k)) (e ∷ es) ≡ None
below_first e es k sorted less =
    lookup_at_gap values_cmp_total k (e ∷ es) 0 sorted (λ j x before there. absurd (omega (arith, before)))
    (λ x there. ap (λ (o : Option (List Value × KeyRows)). values_cmp k (unwrap_or o e).0) (sym there) ∙ less)

pub overwritten : (es : Entries) (k : List Value) (v w : KeyRows) → IsStrictlySortedBy values_cmp (keys_of es) → lookup (is_at (values_cmp k)) es ≡ Some v → insert_entry values_cmp es k w ≡ set_value (is_at (values_cmp k)) es w
unfolding IsStrictlySortedBy
overwritten [] k v w sorted found = absurd (found_none [] k v found refl)
overwritten (e ∷ es) k v w sorted found =
    by_order (λ h. overwritten es k v w sorted.1 h) (values_cmp k e.0) (λ less. found_none (e ∷ es) k v found (below_first e es k sorted less)) found
  where
    by_order : (lookup (is_at (values_cmp k)) es ≡ Some v → insert_entry values_cmp es k w ≡ set_value (is_at (values_cmp k)) es w)
        → (r : Ordering) → (r ≡ Less → ⊥) → cond (is_eq r) (Some e.1) (lookup (is_at (values_cmp k)) es) ≡ Some v
        → match_ordering r ((k, w) ∷ e ∷ es) ((e.0, w) ∷ es) (e ∷ insert_entry values_cmp es k w) ≡ cond (is_eq r) ((e.0, w) ∷ es) (e ∷ set_value (is_at (values_cmp k)) es w)
    by_order rest Less never found = absurd (never refl)
    by_order rest Equal never found = refl
    by_order rest Greater never found = ap (λ (xs : Entries). e ∷ xs) (rest found)

-- ---- a new key

-- a group of no rows adds none
inserted_empty : (es : Entries) (k : List Value) (w : KeyRows) → lookup (is_at (values_cmp k)) es ≡ None → rows_in w ≡ [] → rows_of_groups (insert_entry values_cmp es k w) ≡ rows_of_groups es
inserted_empty [] k w none empty = ap (λ (xs : List VersionRow). xs ++ []) empty
inserted_empty (e ∷ es) k w none empty = by_order (λ h. inserted_empty es k w h empty) (values_cmp k e.0) none
  where
    by_order : (lookup (is_at (values_cmp k)) es ≡ None → rows_of_groups (insert_entry values_cmp es k w) ≡ rows_of_groups es)
        → (r : Ordering) → cond (is_eq r) (Some e.1) (lookup (is_at (values_cmp k)) es) ≡ None
        → rows_of_groups (match_ordering r ((k, w) ∷ e ∷ es) ((e.0, w) ∷ es) (e ∷ insert_entry values_cmp es k w)) ≡ rows_in e.1 ++ rows_of_groups es
    by_order rest Less none = ap (λ (xs : List VersionRow). xs ++ (rows_in e.1 ++ rows_of_groups es)) empty
    by_order rest Equal none = absurd (let x : Some e.1 ≡ None = none in cc)
    by_order rest Greater none = ap (λ (xs : List VersionRow). rows_in e.1 ++ xs) (rest none)

-- ---- either

-- the groups had the key with this group, or the key is new and its group was empty
Was : Groups → List Value → KeyRows → Type 0
Was m key v = (Some v ≡ get values_cmp m key) ⊎ ((get values_cmp m key ≡ None) × (rows_in v ≡ []))

was : (m : Groups) (key : List Value) (v empty : KeyRows) → v ≡ unwrap_or (get values_cmp m key) empty → rows_in empty ≡ [] → Was m key v
unfolding Was
was m key v empty read none = by_found (get values_cmp m key) read
  where
    by_found : (found : Option KeyRows) → v ≡ unwrap_or found empty → (Some v ≡ found) ⊎ ((found ≡ None) × (rows_in v ≡ []))
    by_found None is = inr (refl, ap rows_in is ∙ none)
    by_found (Some x) is = inl (ap (λ (y : KeyRows). Some y) is)

pub rows_entered : (m : Groups) (key : List Value) (v w empty : KeyRows) (a b : List VersionRow) (es : Entries) → Enters m key w es → v ≡ unwrap_or (get values_cmp m key) empty → rows_in empty ≡ []
    → IsPermutation (a ++ rows_in w) (b ++ rows_in v) → IsPermutation (a ++ rows_of_groups es) (b ++ rows_of_groups m.entries)
unfolding Was
rows_entered m key v w empty a b es enters read none moved =
    subst (λ (es : Entries). IsPermutation (a ++ rows_of_groups es) (b ++ rows_of_groups m.entries)) (sym enters.entries)
    (elim (was m key v empty read none) [
      | inl there ↦ subst (λ (es : Entries). IsPermutation (a ++ rows_of_groups es) (b ++ rows_of_groups m.entries)) (sym (overwritten m.entries key v w enters.was_ordered (sym there)))
          (written (is_at (values_cmp key)) m.entries v w a b (sym there) moved)
      | inr (new, nothing) ↦ IsPermutation-trans (a ++ rows_of_groups (insert_entry values_cmp m.entries key w)) (a ++ (rows_in w ++ rows_of_groups m.entries)) (b ++ rows_of_groups m.entries)
          (IsPermutation-append_right a (rows_of_groups (insert_entry values_cmp m.entries key w)) (rows_in w ++ rows_of_groups m.entries) (inserted_group m.entries key w new))
          (changed_before a b [] (rows_in w) (rows_of_groups m.entries) (subst (λ (xs : List VersionRow). IsPermutation (a ++ rows_in w) (b ++ xs)) nothing moved))
    ])

pub none_entered : (m : Groups) (key : List Value) (v w empty : KeyRows) (es : Entries) → Enters m key w es → v ≡ unwrap_or (get values_cmp m key) empty → rows_in empty ≡ []
    → rows_in w ≡ rows_in v → rows_of_groups es ≡ rows_of_groups m.entries
unfolding Was
none_entered m key v w empty es enters read none same =
    ap rows_of_groups enters.entries ∙ elim (was m key v empty read none) [
      | inl there ↦ ap rows_of_groups (overwritten m.entries key v w enters.was_ordered (sym there)) ∙ unmoved (is_at (values_cmp key)) m.entries v w (sym there) same
      | inr (new, nothing) ↦ inserted_empty m.entries key w new (same ∙ nothing)
    ]

-- each row of the group that was written was there, or has its key
pub grouped_entered : (positions : List ℕ) (m n : Groups) (key : List Value) (v w empty : KeyRows) → Enters m key w n.entries → IsOrdered values_cmp n → v ≡ unwrap_or (get values_cmp m key) empty → rows_in empty ≡ []
    → ((x : VersionRow) → Contains (rows_in w) x → Contains (rows_in v) x ⊎ (key ≡ version_key positions x)) → AreGrouped positions m → AreGrouped positions n
unfolding Was
grouped_entered positions m n key v w empty enters ordered read none from grouped =
    elim (was m key v empty read none) [
      | inl there ↦ grouped_after positions m n key v w there (enters.entries ∙ overwritten m.entries key v w enters.was_ordered (sym there)) ordered from grouped
      | inr (new, nothing) ↦ record {
        ordered = ordered;
        keyed = subst (AllByRecursion (HaveKey positions)) (sym enters.entries)
            (keyed_inserted (HaveKey positions) m.entries key w new (λ x there. elim (from x there) [
              | inl earlier ↦ absurd (Contains-nil x (subst (λ (xs : List VersionRow). Contains xs x) nothing earlier))
              | inr own ↦ own
            ]) grouped.keyed);
      }
    ]
