-- An index read at a key after a change at one key.
use Rattle.std.proofs.Common.{◌≡◌, ℕ, suc, Bool, true, false, not, cond, Some, None, List, [], ◌∷◌, ◌++◌, refl, sym, ◌∙◌, ap, subst, arith, length}
use Rattle.std.specs.Prelude.{◌==◌, Option, is_some, unwrap_or}
use Rattle.std.proofs.lemmas.Bool.{false≢true}
use Rattle.std.proofs.lemmas.Bool.Decides.{nat_tests}
use Rattle.std.specs.List.Sorted.{IsPermutation}
use Rattle.std.proofs.lemmas.List.Sorted.{IsPermutation-refl}
use Rattle.std.specs.Option.{option_map_or}
use Rattle.std.specs.Ordering.{eq_by_cmp}
use Rattle.std.specs.BTreeMap.{BTreeMap, get, Updates}
use Rattle.period_core.specs.Order.{values_cmp}
use Rattle.period_core.specs.OrderLaws.{values_eq}
use Rattle.period_core.specs.declared.value.Value.{Value}
use Rattle.period_core.specs.declared.period.Period.{Period}
use Rattle.period_keys.specs.Index.{periods_at}
use Rattle.period_keys.specs.declared.keyed_periods.KeyedPeriods.{KeyedPeriods}
use Rattle.period_keys.specs.declared.ordered_periods.OrderedPeriods.{OrderedPeriods}

-- the list of a map of lists at a key
abbrev pub read : {V : Type 0} → (V → List Period) → BTreeMap (List Value) V → List Value → List Period
read items m key = option_map_or items (get values_cmp m key) []

-- the periods at each key after a write at one key, which makes this list of the old one
pub read_changed : {V : Type 0} (items : V → List Period) (m n : BTreeMap (List Value) V) (key : List Value) (w : V)
    (more : List Period → List Period) → Updates values_cmp m n key (Some w) → items w ≡ more (read items m key)
    → (other : List Value) → read items n other ≡ cond (eq_by_cmp values_cmp key other) (more (read items m other)) (read items m other)
read_changed items m n key w more u is other =
    ap (λ o. option_map_or items o []) (u.0 other) ∙ by_test (eq_by_cmp values_cmp key other) refl
  where
    by_test :
        (b : Bool) → eq_by_cmp values_cmp key other ≡ b
        → option_map_or items (cond b (Some w) (get values_cmp m other)) [] ≡ cond b (more (read items m other)) (read items m other)
    by_test true e = is ∙ ap (λ k. more (read items m k)) ((values_eq key other).0 e)
    by_test false e = refl

-- the periods at each key after a write at one key, which adds these to its list, in some order
pub read_moved : {V : Type 0} (items : V → List Period) (m n : BTreeMap (List Value) V) (key : List Value) (w : V) (more : List Period)
    → Updates values_cmp m n key (Some w) → IsPermutation (items w) (read items m key ++ more)
    → (other : List Value) → IsPermutation (read items n other) (cond (eq_by_cmp values_cmp key other) (read items m other ++ more) (read items m other))
read_moved items m n key w more u moved other =
    subst (λ (xs : List Period). IsPermutation xs (cond (eq_by_cmp values_cmp key other) (read items m other ++ more) (read items m other))) (sym (ap (λ o. option_map_or items o []) (u.0 other)))
    (by_test (eq_by_cmp values_cmp key other) refl)
  where
    by_test : (b : Bool) → eq_by_cmp values_cmp key other ≡ b → IsPermutation (option_map_or items (cond b (Some w) (get values_cmp m other)) []) (cond b (read items m other ++ more) (read items m other))
    by_test true e = subst (λ (k : List Value). IsPermutation (items w) (read items m k ++ more)) ((values_eq key other).0 e) moved
    by_test false e = IsPermutation-refl (read items m other)

-- a look-up that found a list
pub read_there : {V : Type 0} (items : V → List Period) (m : BTreeMap (List Value) V) (key : List Value) (v : V) → Some v ≡ get values_cmp m key → read items m key ≡ items v
read_there items m key v e = ap (λ o. option_map_or items o []) (sym e)

-- a look-up that found a list, or none
pub read_or : {V : Type 0} (items : V → List Period) (m : BTreeMap (List Value) V) (key : List Value) (v empty : V) → v ≡ unwrap_or (get values_cmp m key) empty → items empty ≡ [] → read items m key ≡ items v
read_or {V} items m key v empty is none = by_found (get values_cmp m key) is
  where
    by_found : (found : Option V) → v ≡ unwrap_or found empty → option_map_or items found [] ≡ items v
    by_found None given = sym none ∙ ap items (sym given)
    by_found (Some x) given = ap items (sym given)

pub cond_same : {X : Type 0} (b : Bool) (x : X) → cond b x x ≡ x
cond_same true x = refl
cond_same false x = refl

-- a write at one key leaves the periods at other keys
pub read_apart : {V : Type 0} (items : V → List Period) (m n : BTreeMap (List Value) V) (key : List Value) (w : V) → Updates values_cmp m n key (Some w)
    → (other : List Value) → (key ≡ other → ⊥) → read items n other ≡ read items m other
read_apart items m n key w u other apart = ap (λ o. option_map_or items o []) (u.0 other ∙ by_test (eq_by_cmp values_cmp key other) refl)
  where
    by_test : (b : Bool) → eq_by_cmp values_cmp key other ≡ b → cond b (Some w) (get values_cmp m other) ≡ get values_cmp m other
    by_test true e = absurd (apart ((values_eq key other).0 e))
    by_test false e = refl

-- whether an index has a period of a key
abbrev pub has_period : KeyedPeriods → List Value → Bool
has_period index key = not (length (periods_at index key) == 0)

pub has_some : (index : KeyedPeriods) (key : List Value) → has_period index key ≡ true → periods_at index key ≡ [] → ⊥
has_some index key has none = false≢true (sym (ap (λ (xs : List Period). not (length xs == 0)) none) ∙ has)

pub some_has : (index : KeyedPeriods) (key : List Value) → (periods_at index key ≡ [] → ⊥) → has_period index key ≡ true
some_has index key some = go (periods_at index key) some
  where
    longer : (n : ℕ) → not (suc n == 0) ≡ true
    longer n = grind (arith, nat_tests)

    go : (xs : List Period) → (xs ≡ [] → ⊥) → not (length xs == 0) ≡ true
    go [] none = absurd (none refl)
    go (x ∷ xs) none = longer (length xs)

-- a key that has a period is in the map
pub has_entry : (index : KeyedPeriods) (key : List Value) → (periods_at index key ≡ [] → ⊥) → is_some (get values_cmp index.entries key) ≡ true
has_entry index key some = go (get values_cmp index.entries key) some
  where
    go : (found : Option OrderedPeriods) → (option_map_or (λ (periods : OrderedPeriods). periods.items.items) found [] ≡ [] → ⊥) → is_some found ≡ true
    go None none = absurd (none refl)
    go (Some periods) none = refl
