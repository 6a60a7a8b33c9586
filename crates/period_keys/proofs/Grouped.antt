-- The rows of groups: after a write at one key, with a group more or less, and the rows of a key.
use Rattle.std.proofs.Common.{◌≡◌, ◌++◌, ◌∷◌, [], ◌∙◌, ℕ, Bool, true, false, cond, Some, None, List, inl, inr, refl, sym, ap, subst, append_assoc, append-nil}
use Rattle.std.specs.Prelude.{◌⊎◌, Option, Contains, IsPermutation, filter, unwrap_or}
use Rattle.std.specs.Bool.{OnFalse, OnTrue}
use Rattle.std.specs.List.{AllByRecursion, IsDistinct}
use Rattle.std.specs.Map.{keys_of, lookup, remove_entry, set_value, values_of}
use Rattle.std.specs.Option.{option_map_or}
use Rattle.std.specs.Ordering.{eq_by_cmp, is_eq, match_ordering}
use Rattle.std.specs.declared.cmp.Ordering.{Ordering}
use Rattle.std.specs.declared.cmp.Ordering.TheVariants.{Less, Equal, Greater}
use Rattle.std.specs.BTreeMap.{BTreeMap, IsOrdered, WritesThrough, get, insert_entry, is_at}
use Rattle.std.proofs.lemmas.Cmp.{eq_by_cmp_equiv}
use Rattle.std.proofs.lemmas.List.Elements.{filter-append}
use Rattle.std.proofs.lemmas.List.Sorted.{IsPermutation-append_comm, IsPermutation-append_left, IsPermutation-append_right, IsPermutation-refl, IsPermutation-sym, IsPermutation-trans, Contains-permutation}
use Rattle.std.proofs.lemmas.Map.{lookup-none}
use Rattle.std.proofs.lemmas.Map.Entries.{none_past_head}
use Rattle.std.proofs.lemmas.Map.Keys.{IsDistinct-from_sorted}
use Rattle.period_core.specs.Order.{values_cmp}
use Rattle.period_core.specs.OrderLaws.{values_cmp_total, values_eq}
use Rattle.period_core.specs.declared.value.Value.{Value}
use Rattle.period_core.specs.declared.version.VersionRow.{VersionRow}
use Rattle.temporal_model.proofs.Members.{Contains-here, Contains-there}
use Rattle.temporal_model.proofs.Rearranged.{IsPermutation-uncons}
use Rattle.period_keys.proofs.Members.{in_filter}
use Rattle.period_keys.specs.declared.key_rows.KeyRows.{KeyRows}
use Rattle.period_keys.specs.Rows.{AreGrouped, HaveKey, rows_of_groups, rows_of_lists}
use Rattle.period_keys.specs.Versions.{is_of_key, version_key}

abbrev pub rows_in : KeyRows → List VersionRow
rows_in group = group.rows.items

abbrev pub Entries : Type 0
Entries = List (List Value × KeyRows)

-- the rows of groups, by their lists without the keys
pub lists_of_groups : (es : Entries) → rows_of_lists (values_of es) ≡ rows_of_groups es
lists_of_groups [] = refl
lists_of_groups (e ∷ es) = ap (λ (xs : List VersionRow). rows_in e.1 ++ xs) (lists_of_groups es)

-- the middle list to the front
pub to_front : {X : Type 0} (a e r : List X) → IsPermutation (a ++ (e ++ r)) (e ++ (a ++ r))
to_front {X} a e r =
    subst (λ (xs : List X). IsPermutation xs (e ++ (a ++ r))) (append_assoc a e r)
    (subst (IsPermutation ((a ++ e) ++ r)) (append_assoc e a r) (IsPermutation-append_left r (a ++ e) (e ++ a) (IsPermutation-append_comm a e)))

-- if one list among several changes, all together change by the same elements
pub changed_after : {X : Type 0} (a b e s r : List X) → IsPermutation (a ++ s) (b ++ r) → IsPermutation (a ++ (e ++ s)) (b ++ (e ++ r))
changed_after a b e s r moved =
    IsPermutation-trans (a ++ (e ++ s)) (e ++ (a ++ s)) (b ++ (e ++ r)) (to_front a e s)
    (IsPermutation-trans (e ++ (a ++ s)) (e ++ (b ++ r)) (b ++ (e ++ r)) (IsPermutation-append_right e (a ++ s) (b ++ r) moved) (to_front e b r))

pub changed_before : {X : Type 0} (a b v w r : List X) → IsPermutation (a ++ w) (b ++ v) → IsPermutation (a ++ (w ++ r)) (b ++ (v ++ r))
changed_before {X} a b v w r moved =
    subst (λ (xs : List X). IsPermutation xs (b ++ (v ++ r))) (append_assoc a w r)
    (subst (IsPermutation ((a ++ w) ++ r)) (append_assoc b v r) (IsPermutation-append_left r (a ++ w) (b ++ v) moved))

value_is : (x y : KeyRows) → Some x ≡ Some y → x ≡ y
value_is x y e = ap (λ (o : Option KeyRows). unwrap_or o x) e

not_there : (x : KeyRows) → Some x ≡ None → ⊥
not_there x e = cc

-- ---- after a write at one key

pub written : (test : List Value → Bool) (es : Entries) (v w : KeyRows) (a b : List VersionRow) → lookup test es ≡ Some v
    → IsPermutation (a ++ rows_in w) (b ++ rows_in v) → IsPermutation (a ++ rows_of_groups (set_value test es w)) (b ++ rows_of_groups es)
written test [] v w a b found moved = absurd (not_there v (sym found))
written test (e ∷ es) v w a b found moved = by_test (test e.0) (λ h. written test es v w a b h moved) found
  where
    by_test : (t : Bool) → (lookup test es ≡ Some v → IsPermutation (a ++ rows_of_groups (set_value test es w)) (b ++ rows_of_groups es))
        → cond t (Some e.1) (lookup test es) ≡ Some v
        → IsPermutation (a ++ rows_of_groups (cond t ((e.0, w) ∷ es) (e ∷ set_value test es w))) (b ++ (rows_in e.1 ++ rows_of_groups es))
    by_test true rest found =
        subst (λ (u : KeyRows). IsPermutation (a ++ (rows_in w ++ rows_of_groups es)) (b ++ (rows_in u ++ rows_of_groups es))) (sym (value_is e.1 v found))
        (changed_before a b (rows_in v) (rows_in w) (rows_of_groups es) moved)
    by_test false rest found = changed_after a b (rows_in e.1) (rows_of_groups (set_value test es w)) (rows_of_groups es) (rest found)

pub keyed_written : (P : List Value × KeyRows → Type 0) (test : List Value → Bool) (es : Entries) (v w : KeyRows) → lookup test es ≡ Some v
    → ((k : List Value) → test k ≡ true → P (k, v) → P (k, w)) → AllByRecursion P es → AllByRecursion P (set_value test es w)
keyed_written P test [] v w found step all = tt
keyed_written P test (e ∷ es) v w found step all = by_test (λ h. keyed_written P test es v w h step all.1) (test e.0) refl found
  where
    by_test : (lookup test es ≡ Some v → AllByRecursion P (set_value test es w)) → (t : Bool) → test e.0 ≡ t → cond t (Some e.1) (lookup test es) ≡ Some v → AllByRecursion P (cond t ((e.0, w) ∷ es) (e ∷ set_value test es w))
    by_test rest true passes found = (step e.0 passes (subst (λ (u : KeyRows). P (e.0, u)) (value_is e.1 v found) all.0), all.1)
    by_test rest false fails found = (all.0, rest found)

-- ---- with a group more

pub inserted_group : (es : Entries) (k : List Value) (v : KeyRows) → lookup (is_at (values_cmp k)) es ≡ None → IsPermutation (rows_of_groups (insert_entry values_cmp es k v)) (rows_in v ++ rows_of_groups es)
inserted_group [] k v none = IsPermutation-refl (rows_in v ++ [])
inserted_group (e ∷ es) k v none = by_order (λ h. inserted_group es k v h) (values_cmp k e.0) none
  where
    by_order : (lookup (is_at (values_cmp k)) es ≡ None → IsPermutation (rows_of_groups (insert_entry values_cmp es k v)) (rows_in v ++ rows_of_groups es))
        → (r : Ordering) → cond (is_eq r) (Some e.1) (lookup (is_at (values_cmp k)) es) ≡ None
        → IsPermutation (rows_of_groups (match_ordering r ((k, v) ∷ e ∷ es) ((e.0, v) ∷ es) (e ∷ insert_entry values_cmp es k v))) (rows_in v ++ (rows_in e.1 ++ rows_of_groups es))
    by_order rest Less none = IsPermutation-refl (rows_in v ++ (rows_in e.1 ++ rows_of_groups es))
    by_order rest Equal none = absurd (not_there e.1 none)
    by_order rest Greater none = changed_after [] (rows_in v) (rows_in e.1) (rows_of_groups (insert_entry values_cmp es k v)) (rows_of_groups es) (rest none)

pub keyed_inserted : (P : List Value × KeyRows → Type 0) (es : Entries) (k : List Value) (v : KeyRows) → lookup (is_at (values_cmp k)) es ≡ None → P (k, v) → AllByRecursion P es → AllByRecursion P (insert_entry values_cmp es k v)
keyed_inserted P [] k v none p all = (p, tt)
keyed_inserted P (e ∷ es) k v none p all = by_order (λ h. keyed_inserted P es k v h p all.1) (values_cmp k e.0) none
  where
    by_order : (lookup (is_at (values_cmp k)) es ≡ None → AllByRecursion P (insert_entry values_cmp es k v)) → (r : Ordering) → cond (is_eq r) (Some e.1) (lookup (is_at (values_cmp k)) es) ≡ None → AllByRecursion P (match_ordering r ((k, v) ∷ e ∷ es) ((e.0, v) ∷ es) (e ∷ insert_entry values_cmp es k v))
    by_order rest Less none = (p, all)
    by_order rest Equal none = absurd (not_there e.1 none)
    by_order rest Greater none = (all.0, rest none)

-- ---- with one less, which has no rows

pub removed_group : (test : List Value → Bool) (es : Entries) (v : KeyRows) → lookup test es ≡ Some v → rows_in v ≡ [] → rows_of_groups (remove_entry test es) ≡ rows_of_groups es
removed_group test [] v found empty = refl
removed_group test (e ∷ es) v found empty = by_test (λ h. removed_group test es v h empty) (test e.0) found
  where
    by_test : (lookup test es ≡ Some v → rows_of_groups (remove_entry test es) ≡ rows_of_groups es) → (t : Bool) → cond t (Some e.1) (lookup test es) ≡ Some v → rows_of_groups (cond t es (e ∷ remove_entry test es)) ≡ rows_in e.1 ++ rows_of_groups es
    by_test rest true found = ap (λ (xs : List VersionRow). xs ++ rows_of_groups es) (sym (ap rows_in (value_is e.1 v found) ∙ empty))
    by_test rest false found = ap (λ (xs : List VersionRow). rows_in e.1 ++ xs) (rest found)

pub keyed_removed : (P : List Value × KeyRows → Type 0) (test : List Value → Bool) (es : Entries) → AllByRecursion P es → AllByRecursion P (remove_entry test es)
keyed_removed P test [] all = tt
keyed_removed P test (e ∷ es) all = by_test (keyed_removed P test es all.1) (test e.0)
  where
    by_test : AllByRecursion P (remove_entry test es) → (t : Bool) → AllByRecursion P (cond t es (e ∷ remove_entry test es))
    by_test rest true = all.1
    by_test rest false = (all.0, rest)

-- ---- the rows of a key

distinct_rest : (e : List Value × KeyRows) (es : Entries) → IsDistinct (eq_by_cmp values_cmp) (keys_of (e ∷ es)) → IsDistinct (eq_by_cmp values_cmp) (keys_of es)
unfolding IsDistinct
distinct_rest e es h = h.1

-- rows that all pass a test, or all fail it
pub each_alike : {X : Type 0} (p : X → Bool) (b : Bool) (xs : List X) → ((x : X) → Contains xs x → p x ≡ b) → filter p xs ≡ cond b xs []
each_alike p true [] h = refl
each_alike p false [] h = refl
each_alike {X} p b (x ∷ xs) h = ap (λ t. cond t (x ∷ filter p xs) (filter p xs)) (h x (Contains-here x xs)) ∙ more b (each_alike p b xs (λ y c. h y (Contains-there x xs y c)))
  where
    more : (b : Bool) → filter p xs ≡ cond b xs [] → cond b (x ∷ filter p xs) (filter p xs) ≡ cond b (x ∷ xs) []
    more true e = ap (λ ys. x ∷ ys) e
    more false e = e

pub found_rows : (positions : List ℕ) (key : List Value) (es : Entries) → IsDistinct (eq_by_cmp values_cmp) (keys_of es) → AllByRecursion (HaveKey positions) es
    → filter (is_of_key positions key) (rows_of_groups es) ≡ option_map_or rows_in (lookup (is_at (values_cmp key)) es) []
found_rows positions key [] distinct keyed = refl
found_rows positions key (e ∷ es) distinct keyed =
    filter-append (is_of_key positions key) (rows_in e.1) (rows_of_groups es)
    ∙ ap (λ (xs : List VersionRow). xs ++ filter (is_of_key positions key) (rows_of_groups es))
    (each_alike (is_of_key positions key) (eq_by_cmp values_cmp key e.0) (rows_in e.1) (λ v c. ap (λ k. eq_by_cmp values_cmp key k) (sym (keyed.0 v c))))
    ∙ by_test (found_rows positions key es (distinct_rest e es distinct) keyed.1) (eq_by_cmp values_cmp key e.0) refl
  where
    by_test : filter (is_of_key positions key) (rows_of_groups es) ≡ option_map_or rows_in (lookup (is_at (values_cmp key)) es) [] → (t : Bool) → eq_by_cmp values_cmp key e.0 ≡ t
        → cond t (rows_in e.1) [] ++ filter (is_of_key positions key) (rows_of_groups es) ≡ option_map_or rows_in (cond t (Some e.1) (lookup (is_at (values_cmp key)) es)) []
    by_test rest true same =
        ap (λ (xs : List VersionRow). rows_in e.1 ++ xs)
        (rest ∙ ap (λ (o : Option KeyRows). option_map_or rows_in o [])
        (lookup-none (is_at (values_cmp key)) es (none_past_head (eq_by_cmp_equiv values_cmp_total) key e es distinct same)))
        ∙ append-nil (rows_in e.1)
    by_test rest false other = rest

-- a look-up of a key finds the key's group
pub group_of_key : (positions : List ℕ) (key : List Value) (groups : BTreeMap (List Value) KeyRows) → AreGrouped positions groups
    → filter (is_of_key positions key) (rows_of_groups groups.entries) ≡ option_map_or rows_in (get values_cmp groups key) []
group_of_key positions key groups grouped =
    found_rows positions key groups.entries (IsDistinct-from_sorted values_cmp (keys_of groups.entries) grouped.ordered) grouped.keyed

-- ---- groups after a write at a key that exists

abbrev pub Groups : Type 0
Groups = BTreeMap (List Value) KeyRows

abbrev pub Writes : Groups → Groups → List Value → KeyRows → Type 0
Writes m n key w = WritesThrough values_cmp (values_cmp key) m w n

pub unmoved : (test : List Value → Bool) (es : Entries) (v w : KeyRows) → lookup test es ≡ Some v → rows_in w ≡ rows_in v → rows_of_groups (set_value test es w) ≡ rows_of_groups es
unmoved test [] v w found same = refl
unmoved test (e ∷ es) v w found same = by_test (λ h. unmoved test es v w h same) (test e.0) found
  where
    by_test : (lookup test es ≡ Some v → rows_of_groups (set_value test es w) ≡ rows_of_groups es) → (t : Bool) → cond t (Some e.1) (lookup test es) ≡ Some v → rows_of_groups (cond t ((e.0, w) ∷ es) (e ∷ set_value test es w)) ≡ rows_in e.1 ++ rows_of_groups es
    by_test rest true found = ap (λ (xs : List VersionRow). xs ++ rows_of_groups es) (same ∙ sym (ap rows_in (value_is e.1 v found)))
    by_test rest false found = ap (λ (xs : List VersionRow). rows_in e.1 ++ xs) (rest found)

-- each row of the group that was written was there, or has its key
pub grouped_after : (positions : List ℕ) (m n : Groups) (key : List Value) (v w : KeyRows) → Some v ≡ get values_cmp m key → n.entries ≡ set_value (is_at (values_cmp key)) m.entries w → IsOrdered values_cmp n
    → ((x : VersionRow) → Contains (rows_in w) x → Contains (rows_in v) x ⊎ (key ≡ version_key positions x)) → AreGrouped positions m → AreGrouped positions n
grouped_after positions m n key v w there set ordered from grouped = record {
  ordered = ordered;
  keyed = subst (AllByRecursion (HaveKey positions)) (sym set)
      (keyed_written (HaveKey positions) (is_at (values_cmp key)) m.entries v w (sym there) step grouped.keyed);
} where
  step : (k : List Value) → is_at (values_cmp key) k ≡ true → HaveKey positions (k, v) → HaveKey positions (k, w)
  step k same have x c =
      elim (from x c) [
        | inl was ↦ have x was
        | inr own ↦ sym ((values_eq key k).0 same) ∙ own
      ]

-- a row of this key, which is among the rows, is in its group
pub in_group : (positions : List ℕ) (m : Groups) (key : List Value) (x : VersionRow) → AreGrouped positions m → key ≡ version_key positions x → Contains (rows_of_groups m.entries) x
    → Contains (option_map_or rows_in (get values_cmp m key) []) x
in_group positions m key x grouped own there =
    subst (λ (xs : List VersionRow). Contains xs x) (group_of_key positions key m grouped)
    (in_filter (is_of_key positions key) (rows_of_groups m.entries) x there ((values_eq key (version_key positions x)).1 own))

-- a group without one of its rows leaves the other rows
pub taken_from : (positions : List ℕ) (m n : Groups) (key : List Value) (v w : KeyRows) (x : VersionRow) (rest : List VersionRow) → Some v ≡ get values_cmp m key → Writes m n key w
    → IsPermutation (rows_in v) (x ∷ rows_in w) → IsPermutation (rows_of_groups m.entries) (x ∷ rest) → IsPermutation (rows_of_groups n.entries) rest
taken_from positions m n key v w x rest there writes taken moved =
    let all : List VersionRow = rows_of_groups (set_value (is_at (values_cmp key)) m.entries w) in
    let one_less : IsPermutation (x ∷ all) (rows_of_groups m.entries) =
    written (is_at (values_cmp key)) m.entries v w (x ∷ []) [] (sym there) (IsPermutation-sym (rows_in v) (x ∷ rows_in w) taken) in
    let left : IsPermutation all rest = IsPermutation-uncons x all rest (IsPermutation-trans (x ∷ all) (rows_of_groups m.entries) (x ∷ rest) one_less moved) in
    subst (λ (es : Entries). IsPermutation (rows_of_groups es) rest) (sym writes.0) left

-- after a row is taken from a group, the rows left in it were in it before
pub still_grouped : (positions : List ℕ) (m n : Groups) (key : List Value) (v w : KeyRows) (x : VersionRow) (r : Bool) → Some v ≡ get values_cmp m key → Writes m n key w
    → OnTrue r (IsPermutation (rows_in v) (x ∷ rows_in w)) → OnFalse r (rows_in w ≡ rows_in v) → AreGrouped positions m → AreGrouped positions n
still_grouped positions m n key v w x r there writes taken kept grouped =
    grouped_after positions m n key v w there writes.0 writes.4 (λ y c. inl (was r taken kept y c)) grouped
  where
    was : (r : Bool) → OnTrue r (IsPermutation (rows_in v) (x ∷ rows_in w)) → OnFalse r (rows_in w ≡ rows_in v) → (y : VersionRow) → Contains (rows_in w) y → Contains (rows_in v) y
    was true taken kept y c = Contains-permutation (x ∷ rows_in w) (rows_in v) y (IsPermutation-sym (rows_in v) (x ∷ rows_in w) taken) (Contains-there x (rows_in w) y c)
    was false taken kept y c = subst (λ (xs : List VersionRow). Contains xs y) kept c

-- a group without rows may be removed
pub emptied : (n o : Groups) (key : List Value) (w : KeyRows) → get values_cmp n key ≡ Some w → rows_in w ≡ []
    → o.entries ≡ remove_entry (is_at (values_cmp key)) n.entries → rows_of_groups o.entries ≡ rows_of_groups n.entries
emptied n o key w there none removed = ap rows_of_groups removed ∙ removed_group (is_at (values_cmp key)) n.entries w there none

pub grouped_without : (positions : List ℕ) (n o : Groups) (key : List Value) → o.entries ≡ remove_entry (is_at (values_cmp key)) n.entries → IsOrdered values_cmp o → AreGrouped positions n → AreGrouped positions o
grouped_without positions n o key removed ordered grouped = record {
  ordered = ordered;
  keyed = subst (AllByRecursion (HaveKey positions)) (sym removed) (keyed_removed (HaveKey positions) (is_at (values_cmp key)) n.entries grouped.keyed);
}
