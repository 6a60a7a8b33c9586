-- The rows of ascending keys, one key after another, are those that have one of the keys.
use Rattle.std.proofs.Common.{◌≡◌, ◌++◌, ◌∷◌, [], ◌∙◌, ◌<◌, ◌+◌, ℕ, Bool, true, false, cond, List, length, take, filter, get_or, refl, sym, ap, ap₂, append_assoc, append-nil, subst}
use Rattle.std.specs.Prelude.{◌||◌}
use Rattle.std.specs.List.{AllByRecursion, flat_map, list_any}
use Rattle.std.specs.List.Sorted.{IsStrictlySortedBy}
use Rattle.std.specs.Map.{keys_of}
use Rattle.std.specs.Ordering.{eq_by_cmp, is_eq, ordering_reverse}
use Rattle.std.specs.declared.cmp.Ordering.{Ordering}
use Rattle.std.specs.declared.cmp.Ordering.TheVariants.{Less, Equal, Greater}
use Rattle.std.proofs.lemmas.Bool.{false≢true}
use Rattle.std.proofs.lemmas.List.{take_more}
use Rattle.std.proofs.lemmas.List.Concat.{flat_map-append}
use Rattle.std.proofs.lemmas.List.Elements.{filter-append}
use Rattle.period_core.specs.Order.{values_cmp}
use Rattle.period_core.specs.OrderLaws.{values_cmp_total, values_eq}
use Rattle.period_core.specs.declared.value.Value.{Value}
use Rattle.period_core.specs.declared.version.VersionRow.{VersionRow}
use Rattle.period_keys.specs.declared.key_rows.KeyRows.{KeyRows}
use Rattle.period_keys.specs.Rows.{HaveKey, rows_of_groups, rows_of_lists}
use Rattle.period_keys.specs.Secondary.{is_of_some_key}
use Rattle.period_keys.specs.Versions.{is_of_key, version_key}
use Rattle.period_keys.proofs.Grouped.{Entries, each_alike, rows_in}

abbrev IsBelow : List Value → List Value → Type 0
IsBelow k key = values_cmp k key ≡ Less

-- the key is one of these
abbrev is_some_of : List (List Value) → List Value → Bool
is_some_of keys key = list_any (λ (k : List Value). eq_by_cmp values_cmp k key) keys

not_below_itself : (r : Ordering) → r ≡ Less → is_eq (ordering_reverse r) ≡ false
not_below_itself Less is = refl
not_below_itself Equal is = absurd cc
not_below_itself Greater is = absurd cc

-- a key is not one of those above it
not_above : (k x : List Value) (keys : List (List Value)) → AllByRecursion (IsBelow k) keys → k ≡ x → is_some_of keys x ≡ false
not_above k x [] above same = refl
not_above k x (key ∷ keys) above same =
    let apart : eq_by_cmp values_cmp key x ≡ false =
    subst (λ (y : List Value). eq_by_cmp values_cmp key y ≡ false) same (ap is_eq (values_cmp_total.antisymm key k) ∙ not_below_itself (values_cmp k key) above.0) in
    ap₂ (λ (a b : Bool). a || b) apart (not_above k x keys above.1 same)

-- one of the keys above a key is above it
some_above : (k x : List Value) (keys : List (List Value)) → AllByRecursion (IsBelow k) keys → is_some_of keys x ≡ true → IsBelow k x
some_above k x [] above is = absurd (false≢true is)
some_above k x (key ∷ keys) above is = by_test (λ h. some_above k x keys above.1 h) (eq_by_cmp values_cmp key x) refl is
  where
    by_test : (is_some_of keys x ≡ true → IsBelow k x) → (t : Bool) → eq_by_cmp values_cmp key x ≡ t → (t || is_some_of keys x) ≡ true → IsBelow k x
    by_test others true same is = subst (IsBelow k) ((values_eq key x).0 same) above.0
    by_test others false other is = others is

all_above : (k x : List Value) (keys : List (List Value)) → IsBelow k x → AllByRecursion (IsBelow x) keys → AllByRecursion (IsBelow k) keys
all_above k x [] less above = tt
all_above k x (key ∷ keys) less above = (values_cmp_total.trans k x key less above.0, all_above k x keys less above.1)

module _ (positions : List ℕ) where
  -- a test of rows by their keys, which keeps the rows of a group or none of them
  by_group : (test : List Value → Bool) (e : List Value × KeyRows) (es : Entries) → HaveKey positions e
      → filter (λ (v : VersionRow). test (version_key positions v)) (rows_in e.1 ++ rows_of_groups es) ≡ cond (test e.0) (rows_in e.1) [] ++ filter (λ (v : VersionRow). test (version_key positions v)) (rows_of_groups es)
  by_group test e es have =
      let kept : VersionRow → Bool = λ v. test (version_key positions v) in
      filter-append kept (rows_in e.1) (rows_of_groups es)
      ∙ ap (λ (xs : List VersionRow). xs ++ filter kept (rows_of_groups es)) (each_alike kept (test e.0) (rows_in e.1) (λ v c. ap test (sym (have v c))))

  -- no group above a key has rows of it
  none_above_key : (k : List Value) (es : Entries) → AllByRecursion (HaveKey positions) es → AllByRecursion (IsBelow k) (keys_of es) → filter (is_of_key positions k) (rows_of_groups es) ≡ []
  none_above_key k [] keyed above = refl
  none_above_key k (e ∷ es) keyed above =
      by_group (eq_by_cmp values_cmp k) e es keyed.0 ∙ ap₂ (λ (t : Bool) (xs : List VersionRow). cond t (rows_in e.1) [] ++ xs) (ap is_eq above.0) (none_above_key k es keyed.1 above.1)

  -- the rows of the least of some keys come before those of the others
  least_first : (k : List Value) (keys : List (List Value)) (es : Entries) → IsStrictlySortedBy values_cmp (keys_of es) → AllByRecursion (HaveKey positions) es → AllByRecursion (IsBelow k) keys
      → filter (is_of_key positions k) (rows_of_groups es) ++ filter (is_of_some_key positions keys) (rows_of_groups es) ≡ filter (is_of_some_key positions (k ∷ keys)) (rows_of_groups es)
  unfolding IsStrictlySortedBy
  least_first k keys [] sorted keyed above = refl
  least_first k keys (e ∷ es) sorted keyed above =
      ap₂ (λ (xs ys : List VersionRow). xs ++ ys) (by_group (eq_by_cmp values_cmp k) e es keyed.0) (by_group (is_some_of keys) e es keyed.0)
      ∙ by_tests (eq_by_cmp values_cmp k e.0) (is_some_of keys e.0) refl refl (least_first k keys es sorted.1 keyed.1 above)
      ∙ sym (by_group (is_some_of (k ∷ keys)) e es keyed.0)
    where
      own : List VersionRow
      own = rows_in e.1

      first : List VersionRow
      first = filter (is_of_key positions k) (rows_of_groups es)

      others : List VersionRow
      others = filter (is_of_some_key positions keys) (rows_of_groups es)

      all : List VersionRow
      all = filter (is_of_some_key positions (k ∷ keys)) (rows_of_groups es)

      by_tests : (a b : Bool) → eq_by_cmp values_cmp k e.0 ≡ a → is_some_of keys e.0 ≡ b → first ++ others ≡ all → (cond a own [] ++ first) ++ (cond b own [] ++ others) ≡ cond (a || b) own [] ++ all
      by_tests true true is some rest = absurd (false≢true (sym (not_above k e.0 keys above ((values_eq k e.0).0 is)) ∙ some))
      by_tests true false is some rest = append_assoc own first others ∙ ap (λ (xs : List VersionRow). own ++ xs) rest
      by_tests false true is some rest =
          let none : first ≡ [] = none_above_key k es keyed.1 (all_above k e.0 (keys_of es) (some_above k e.0 keys above some) sorted.0) in
          ap (λ (xs : List VersionRow). xs ++ (own ++ others)) none ∙ ap (λ (xs : List VersionRow). own ++ xs) (sym (ap (λ (xs : List VersionRow). xs ++ others) none) ∙ rest)
      by_tests false false is some rest = rest

  pub rows_of_keys : (keys : List (List Value)) (es : Entries) → IsStrictlySortedBy values_cmp keys → IsStrictlySortedBy values_cmp (keys_of es) → AllByRecursion (HaveKey positions) es
      → flat_map (λ (k : List Value). filter (is_of_key positions k) (rows_of_groups es)) keys ≡ filter (is_of_some_key positions keys) (rows_of_groups es)
  unfolding IsStrictlySortedBy
  rows_of_keys [] es ascend sorted keyed = sym (each_alike (is_of_some_key positions []) false (rows_of_groups es) (λ v c. refl))
  rows_of_keys (k ∷ keys) es ascend sorted keyed =
      ap (λ (xs : List VersionRow). filter (is_of_key positions k) (rows_of_groups es) ++ xs) (rows_of_keys keys es ascend.1 sorted keyed) ∙ least_first k keys es sorted keyed ascend.0

-- ---- groups that are found one after another

pub lists_more : (groups : List KeyRows) (group : KeyRows) → rows_of_lists (groups ++ group ∷ []) ≡ rows_of_lists groups ++ group.rows.items
lists_more [] group = append-nil group.rows.items
lists_more (g ∷ groups) group = ap (λ (xs : List VersionRow). g.rows.items ++ xs) (lists_more groups group) ∙ sym (append_assoc g.rows.items (rows_of_lists groups) group.rows.items)

pub flat_more : (f : List Value → List VersionRow) (keys : List (List Value)) (i : ℕ) (key : List Value) → i < length keys → key ≡ get_or keys i key → flat_map f (take (i + 1) keys) ≡ flat_map f (take i keys) ++ f key
flat_more f keys i key below is =
    ap (flat_map f) (take_more keys i key below ∙ ap (λ k. take i keys ++ k ∷ []) (sym is)) ∙ flat_map-append f (take i keys) (key ∷ []) ∙ ap (λ (xs : List VersionRow). flat_map f (take i keys) ++ xs) (append-nil (f key))
