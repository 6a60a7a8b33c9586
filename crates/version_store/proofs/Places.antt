-- Sets of places, and the versions that have one of them.
use Rattle.std.proofs.Common.{◌≡◌, ℕ, ℤ, List, [], ◌∷◌, Bool, true, false, cond, ◌&&◌, ◌||◌, ◌==◌, refl, sym, ap, ◌∙◌, Ordering, Less, Equal, Greater, true≢false}
use Rattle.std.specs.BTreeSet.{insert_key}
use Rattle.std.specs.Set.{remove_key}
use Rattle.std.specs.BTreeMap.{is_at}
use Rattle.std.specs.List.{list_any}
use Rattle.std.specs.Ordering.{int_cmp, is_eq, match_ordering, nat_cmp, ordering_then}
use Rattle.std.specs.Cmp.Lexicographic.{slice_cmp}
use Rattle.std.proofs.lemmas.Bool.{and_parts, or_parts}
use Rattle.std.proofs.lemmas.Map.Lookups.{exact_bytes, exact_signed}
use Rattle.version_tables.specs.Represents.{Version, same_key}
use Rattle.version_tables.specs.contracts.version_key.VersionKeyOrd.TheImpl as impl
use Rattle.version_tables.specs.declared.version_key.VersionKey.{VersionKey}
use Rattle.version_store.specs.PendingRemovals.{is_pending, key_at}
use Rattle.version_store.proofs.Sweeps.{equal}

abbrev pub place_cmp : VersionKey → VersionKey → Ordering
place_cmp = (impl.ghosts).cmp

-- ---- truth values

or_twice : (a b : Bool) → (a || b) ≡ (a || (a || b))
or_twice true b = refl
or_twice false b = refl

or_moved : (a b c : Bool) → (a || (b || c)) ≡ (b || (a || c))
or_moved true true c = refl
or_moved true false c = refl
or_moved false b c = refl

none_of : (t a b f : Bool) → (a && b) ≡ false → (t && (a && (b && f))) ≡ false
none_of false a b f h = refl
none_of true false b f h = refl
none_of true true false f h = refl
none_of true true true f h = absurd (true≢false h)

-- ---- places

both_equal : (o r : Ordering) → is_eq (ordering_then o r) ≡ (is_eq o && is_eq r)
both_equal Less r = refl
both_equal Equal r = refl
both_equal Greater r = refl

compared : (k x : VersionKey) → is_at (place_cmp k) x ≡ (is_eq (slice_cmp nat_cmp k.values.items x.values.items) && is_eq (int_cmp k.start x.start))
compared k x = both_equal (slice_cmp nat_cmp k.values.items x.values.items) (int_cmp k.start x.start)

-- ---- the versions

module _ (table : ℕ) (moment : ℤ) (k : VersionKey) (v : Version) where
  -- keys at one place are keys of one version
  same : (x : VersionKey) → is_at (place_cmp k) x ≡ true → same_key (key_at table moment x) v ≡ same_key (key_at table moment k) v
  same x h =
      let parts = and_parts (is_eq (slice_cmp nat_cmp k.values.items x.values.items)) (is_eq (int_cmp k.start x.start)) (sym (compared k x) ∙ h) in
      let values : k.values.items ≡ x.values.items = exact_bytes k.values.items x.values.items (equal (slice_cmp nat_cmp k.values.items x.values.items) parts.0) in
      let start : k.start ≡ x.start = exact_signed k.start x.start (equal (int_cmp k.start x.start) parts.1) in
      ap (λ n. (v.table == table) && (is_eq (slice_cmp nat_cmp v.values n) && (is_eq (int_cmp v.start x.start) && is_eq (int_cmp v.from moment)))) (sym values)
      ∙ ap (λ n. (v.table == table) && (is_eq (slice_cmp nat_cmp v.values k.values.items) && (is_eq (int_cmp v.start n) && is_eq (int_cmp v.from moment)))) (sym start)

  -- one place more is still to be removed
  pub one_more : (ps : List VersionKey) → is_pending table moment (insert_key place_cmp ps k) v ≡ (same_key (key_at table moment k) v || is_pending table moment ps v)
  one_more [] = refl
  one_more (x ∷ ps) = go (place_cmp k x) refl (one_more ps)
    where
      go : (o : Ordering) → place_cmp k x ≡ o → is_pending table moment (insert_key place_cmp ps k) v ≡ (same_key (key_at table moment k) v || is_pending table moment ps v)
          → is_pending table moment (match_ordering o (k ∷ x ∷ ps) (x ∷ ps) (x ∷ insert_key place_cmp ps k)) v ≡ (same_key (key_at table moment k) v || is_pending table moment (x ∷ ps) v)
      go Less e more = refl
      go Equal e more =
          let is = same x (ap is_eq e) in
          ap (λ b. b || is_pending table moment ps v) is ∙ or_twice (same_key (key_at table moment k) v) (is_pending table moment ps v) ∙ ap (λ b. same_key (key_at table moment k) v || (b || is_pending table moment ps v)) (sym is)
      go Greater e more = ap (λ b. same_key (key_at table moment x) v || b) more ∙ or_moved (same_key (key_at table moment x) v) (same_key (key_at table moment k) v) (is_pending table moment ps v)

  -- one place fewer is still to be removed
  pub one_fewer : (ps : List VersionKey) → list_any (is_at (place_cmp k)) ps ≡ true → is_pending table moment ps v ≡ (same_key (key_at table moment k) v || is_pending table moment (remove_key (is_at (place_cmp k)) ps) v)
  one_fewer [] member = absurd (true≢false (sym member))
  one_fewer (x ∷ ps) member = go (is_at (place_cmp k) x) refl member (one_fewer ps)
    where
      go : (b : Bool) → is_at (place_cmp k) x ≡ b → (b || list_any (is_at (place_cmp k)) ps) ≡ true
          → (list_any (is_at (place_cmp k)) ps ≡ true → is_pending table moment ps v ≡ (same_key (key_at table moment k) v || is_pending table moment (remove_key (is_at (place_cmp k)) ps) v))
          → is_pending table moment (x ∷ ps) v ≡ (same_key (key_at table moment k) v || is_pending table moment (cond b ps (x ∷ remove_key (is_at (place_cmp k)) ps)) v)
      go true e member more = ap (λ b. b || is_pending table moment ps v) (same x e)
      go false e member more = ap (λ b. same_key (key_at table moment x) v || b) (more member) ∙ or_moved (same_key (key_at table moment x) v) (same_key (key_at table moment k) v) (is_pending table moment (remove_key (is_at (place_cmp k)) ps) v)

  -- no version leaves from a place that is not in the set
  pub apart : v.values ≡ k.values.items → v.start ≡ k.start → (ps : List VersionKey) → list_any (is_at (place_cmp k)) ps ≡ false → is_pending table moment ps v ≡ false
  apart values start [] none = refl
  apart values start (x ∷ ps) none =
      let parts = or_parts (is_at (place_cmp k) x) (list_any (is_at (place_cmp k)) ps) none in
      let other : (is_eq (slice_cmp nat_cmp v.values x.values.items) && is_eq (int_cmp v.start x.start)) ≡ false =
      ap (λ n. is_eq (slice_cmp nat_cmp n x.values.items) && is_eq (int_cmp v.start x.start)) values ∙ ap (λ n. is_eq (slice_cmp nat_cmp k.values.items x.values.items) && is_eq (int_cmp n x.start)) start ∙ sym (compared k x) ∙ parts.0 in
      ap (λ b. b || is_pending table moment ps v) (none_of (v.table == table) (is_eq (slice_cmp nat_cmp v.values x.values.items)) (is_eq (int_cmp v.start x.start)) (is_eq (int_cmp v.from moment)) other) ∙ apart values start ps parts.1
