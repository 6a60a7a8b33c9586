-- The keys that a secondary index has in a range: they ascend, and each row whose values are in it has one of them.
use Rattle.std.proofs.Common.{◌≡◌, ◌&&◌, ◌++◌, ◌∷◌, [], ◌∙◌, ◌<◌, ◌≤◌, ◌+◌, ℕ, zero, suc, Bool, true, false, cond, inl, inr, set, ℤ, List, None, Some, length, map, take, drop, filter, get_or, refl, sym, ap, ap₂, arith, subst}
use Rattle.std.specs.Prelude.{IsSome}
use Rattle.std.specs.BTreeMap.{BTreeMap, get, is_at}
use Rattle.std.specs.List.{AllByRecursion, Contains, slice_get}
use Rattle.std.specs.List.Sorted.{IsStrictlySortedBy}
use Rattle.std.specs.Map.{keys_of}
use Rattle.std.specs.Ordering.{ordering_then}
use Rattle.std.specs.declared.cmp.Ordering.{Ordering}
use Rattle.std.specs.declared.cmp.Ordering.TheVariants.{Less, Equal}
use Rattle.std.proofs.lemmas.Bool.{and_parts}
use Rattle.std.proofs.lemmas.Cmp.{tied_itself}
use Rattle.std.proofs.lemmas.Bool.{cases_lt}
use Rattle.std.proofs.lemmas.List.{drop_at, get_or-set_other, get_or-set_same, get_or_default, take_at}
use Rattle.std.proofs.lemmas.List.Elements.{Contains-append_cases, filter_map-append}
use Rattle.std.proofs.lemmas.List.Kept.{IsStrictlySortedBy-filter}
use Rattle.std.proofs.lemmas.Map.Views.{btree_map_contains_key_iff}
use Rattle.std.proofs.lemmas.Option.{slice_get_past}
use Rattle.period_core.specs.Order.{value_cmp, values_cmp}
use Rattle.period_core.specs.OrderLaws.{value_cmp_total, values_cmp-same, values_cmp_total, values_eq}
use Rattle.period_core.specs.declared.row.PeriodRow.{PeriodRow}
use Rattle.period_core.specs.declared.value.Value.{Value}
use Rattle.period_core.specs.declared.version.VersionRow.{VersionRow}
use Rattle.period_keys.specs.declared.key_range.KeyRange.{KeyRange}
use Rattle.period_keys.specs.declared.key_range.Limit.{Limit}
use Rattle.period_keys.specs.declared.key_range.Limit.TheVariants.{Unbounded}
use Rattle.period_keys.specs.declared.secondary_index.SecondaryIndex.{SecondaryIndex}
use Rattle.period_keys.specs.Keys.{key_values, values_at}
use Rattle.period_keys.specs.Ranges.{begins_with, is_above, is_below, is_in_range}
use Rattle.period_keys.specs.Secondary.{HasEntries, HasMoreEntries, HaveEntries, entries_of, keys_within}
use Rattle.period_keys.specs.Versions.{begun, has_key_in, version_key}
use Rattle.period_keys.proofs.Members.{from_map, in_filter, in_map}
use Rattle.period_keys.proofs.RangeKeys.{at_most, none_above, none_below, whole_key}
use Rattle.period_keys.proofs.Ranged.{Leads, is_in}

-- ---- in the order of entries

-- keys that begin alike are in the order of what comes after
cmp_after : (n : ℕ) (a b : List Value) → take n a ≡ take n b → values_cmp a b ≡ values_cmp (drop n a) (drop n b)
cmp_after zero a b same = refl
cmp_after (suc n) [] [] same = refl
cmp_after (suc n) [] (y ∷ b) same = absurd cc
cmp_after (suc n) (x ∷ a) [] same = absurd cc
cmp_after (suc n) (x ∷ a) (y ∷ b) same =
    let first : x ≡ y = cc in
    let rest : take n a ≡ take n b = cc in
    let tie : value_cmp x y ≡ Equal = subst (λ (z : Value). value_cmp x z ≡ Equal) first (tied_itself value_cmp_total x) in
    ap (λ (r : Ordering). ordering_then r (values_cmp a b)) tie ∙ cmp_after n a b rest

-- a key that begins with values begins with the first of them
take_lead : (n : ℕ) (p k : List Value) → n ≤ length p → Leads p k → take n k ≡ take n p
take_lead zero p k fits leads = refl
take_lead (suc n) [] k fits leads = absurd (omega (arith, fits))
take_lead (suc n) (x ∷ p) [] fits leads = absurd cc
take_lead (suc n) (x ∷ p) (y ∷ k) fits leads =
    let first : x ≡ y = cc in
    let rest : Leads p k = cc in
    ap₂ (λ (v : Value) (vs : List Value). v ∷ vs) (sym first) (take_lead n p k (omega (arith, fits)) rest)

sorted_after : (n : ℕ) (p : List Value) (ks : List (List Value)) → n ≤ length p → AllByRecursion (Leads p) ks → IsStrictlySortedBy values_cmp ks → IsStrictlySortedBy values_cmp (map (drop n) ks)
unfolding IsStrictlySortedBy
sorted_after n p [] fits leads sorted = tt
sorted_after n p (k ∷ ks) fits leads sorted = (behind ks leads.1 sorted.0, sorted_after n p ks fits leads.1 sorted.1)
  where
    behind : (others : List (List Value)) → AllByRecursion (Leads p) others → AllByRecursion (λ (other : List Value). values_cmp k other ≡ Less) others → AllByRecursion (λ (other : List Value). values_cmp (drop n k) other ≡ Less) (map (drop n) others)
    behind [] lead less = tt
    behind (o ∷ others) lead less = (sym (cmp_after n k o (take_lead n p k fits leads.0 ∙ sym (take_lead n p o fits lead.0))) ∙ less.0, behind others lead.1 less.1)

all_lead : (range : KeyRange) (entries : List (List Value)) → AllByRecursion (Leads range.leading.items) (filter (is_in_range range) entries)
all_lead range [] = tt
all_lead range (e ∷ entries) = by_test (is_in_range range e) refl (all_lead range entries)
  where
    by_test : (t : Bool) → is_in_range range e ≡ t → AllByRecursion (Leads range.leading.items) (filter (is_in_range range) entries) → AllByRecursion (Leads range.leading.items) (cond t (e ∷ filter (is_in_range range) entries) (filter (is_in_range range) entries))
    by_test true is rest =
        let n = length range.leading.items in
        let next = slice_get e n in
        ((values_eq range.leading.items (take n e)).0 (and_parts (begins_with range.leading.items e) (is_above range.lower next && is_below range.upper next) is).0, rest)
    by_test false is rest = rest

-- the keys of entries ascend, if the range fixes all values before them
pub keys_ascend : (index : SecondaryIndex) (range : KeyRange) → IsStrictlySortedBy values_cmp (entries_of index) → length index.positions ≤ length range.leading.items → IsStrictlySortedBy values_cmp (keys_within index range)
keys_ascend index range sorted whole =
    sorted_after (length index.positions) range.leading.items (filter (is_in_range range) (entries_of index)) whole (all_lead range (entries_of index)) (IsStrictlySortedBy-filter values_cmp (is_in_range range) (entries_of index) sorted)

-- ---- the key of each row

-- a range of one key has what begins with it
led_on : (range : KeyRange) (rest : List Value) → is_in_range range range.leading.items ≡ true → is_in_range range (range.leading.items ++ rest) ≡ true
led_on range rest is =
    let leading = range.leading.items in
    let n = length leading in
    let next = slice_get leading n in
    let own = slice_get (leading ++ rest) n in
    let none : next ≡ None = slice_get_past leading n (omega arith) in
    let both = and_parts (begins_with leading leading) (is_above range.lower next && is_below range.upper next) is in
    let limits = and_parts (is_above range.lower next) (is_below range.upper next) both.1 in
    let lower : range.lower ≡ Unbounded = none_above range.lower (ap (is_above range.lower) (sym none) ∙ limits.0) in
    let upper : range.upper ≡ Unbounded = none_below range.upper (ap (is_below range.upper) (sym none) ∙ limits.1) in
    ap₂ (λ (a b : Bool). a && b) ((values_eq leading (take n (leading ++ rest))).1 (sym (take_at leading rest n refl)))
    (ap₂ (λ (a b : Bool). a && b) (ap (λ (l : Limit). is_above l own) lower) (ap (λ (l : Limit). is_below l own) upper))

-- a row whose values are in a range of one key has its own key among those of the entries
pub has_own_key : (index : SecondaryIndex) (range : KeyRange) (key : List ℕ) (rows : List VersionRow) (v : VersionRow) → HasEntries key rows index → length index.positions ≤ length range.leading.items → Contains rows v
    → has_key_in index.positions range v ≡ true → Contains (keys_within index range) (version_key key v)
has_own_key index range key rows v has whole there is =
    let leading = range.leading.items in
    let own : List Value = values_at key v.values in
    let same : values_at index.positions v.values ≡ leading = whole_key range index.positions v.values whole is in
    let entry : version_key index.entry_positions v ≡ leading ++ own =
    ap (λ (ps : List ℕ). values_at ps v.values) has.positions ∙ filter_map-append (slice_get v.values) index.positions key ∙ ap (λ (vs : List Value). vs ++ own) same in
    let inside : is_in_range range (leading ++ own) ≡ true = led_on range own (subst (λ (vs : List Value). is_in_range range vs ≡ true) same is) in
    let size : length (values_at index.positions v.values) ≡ length leading = ap length same in
    let count : length leading ≡ length index.positions = omega (arith, whole, size, at_most index.positions v.values) in
    subst (Contains (keys_within index range)) (drop_at leading own (length index.positions) count)
    (in_map (drop (length index.positions)) (filter (is_in_range range) (entries_of index)) (leading ++ own)
    (in_filter (is_in_range range) (entries_of index) (leading ++ own) (subst (Contains (entries_of index)) entry (has.entries v there)) inside))

-- keys of the entries in a range, without their first values
pub cut_keys : {V : Type 0} (range : KeyRange) (n : ℕ) (entries : List (List Value × V)) → map (λ (e : List Value × V). drop n e.0) (filter (is_in range) entries) ≡ map (drop n) (filter (is_in_range range) (keys_of entries))
cut_keys range n [] = refl
cut_keys {V} range n (e ∷ entries) = by_test (is_in range e) (cut_keys range n entries)
  where
    by_test : (t : Bool) → map (λ (e : List Value × V). drop n e.0) (filter (is_in range) entries) ≡ map (drop n) (filter (is_in_range range) (keys_of entries))
        → map (λ (e : List Value × V). drop n e.0) (cond t (e ∷ filter (is_in range) entries) (filter (is_in range) entries)) ≡ map (drop n) (cond t (e.0 ∷ filter (is_in_range range) (keys_of entries)) (filter (is_in_range range) (keys_of entries)))
    by_test true rest = ap (λ (ks : List (List Value)). drop n e.0 ∷ ks) rest
    by_test false rest = rest

-- ---- after an entry is added

key_iff : (m : BTreeMap (List Value) (Unit {0})) (k : List Value) → (IsSome (get values_cmp m k) → Contains (keys_of m.entries) k) × (Contains (keys_of m.entries) k → IsSome (get values_cmp m k))
key_iff m k = btree_map_contains_key_iff values_cmp_total values_cmp-same m k

pub key_added : (m : BTreeMap (List Value) (Unit {0})) (k : List Value) → get values_cmp m k ≡ Some tt → Contains (keys_of m.entries) k
key_added m k is = (key_iff m k).0 (subst IsSome (sym is) refl)

pub keys_kept : (m n : BTreeMap (List Value) (Unit {0})) (k : List Value) → ((q : List Value) → get values_cmp n q ≡ cond (is_at (values_cmp k) q) (Some tt) (get values_cmp m q)) → (q : List Value) → Contains (keys_of m.entries) q → Contains (keys_of n.entries) q
keys_kept m n k after q there = (key_iff n q).0 (by_test (is_at (values_cmp k) q) (after q) ((key_iff m q).1 there))
  where
    by_test : (t : Bool) → get values_cmp n q ≡ cond t (Some tt) (get values_cmp m q) → IsSome (get values_cmp m q) → IsSome (get values_cmp n q)
    by_test true is some = subst IsSome (sym is) refl
    by_test false is some = subst IsSome (sym is) some

pub more_itself : (index : SecondaryIndex) → HasMoreEntries index index
more_itself index = record { positions = refl; entry_positions = refl; entries = λ e there. there }

pub more_after : (first second third : SecondaryIndex) → HasMoreEntries first second → HasMoreEntries second third → HasMoreEntries first third
more_after first second third one two = record {
  positions = two.positions ∙ one.positions;
  entry_positions = two.entry_positions ∙ one.entry_positions;
  entries = λ e there. two.entries e (one.entries e there);
}

-- the entries of rows that were there, and of those that were added
pub seen_both : (old new : SecondaryIndex) (done given rows : List VersionRow) → HasMoreEntries old new → given ≡ rows → ((v : VersionRow) → Contains done v → Contains (entries_of old) (version_key old.entry_positions v))
    → ((v : VersionRow) → Contains given v → Contains (entries_of new) (version_key old.entry_positions v)) → (v : VersionRow) → Contains (done ++ rows) v → Contains (entries_of new) (version_key new.entry_positions v)
seen_both old new done given rows more is seen added v there =
    subst (λ (ps : List ℕ). Contains (entries_of new) (version_key ps v)) (sym more.entry_positions)
    (elim (Contains-append_cases done rows v there) [
      | inl before ↦ more.entries (version_key old.entry_positions v) (seen v before)
      | inr now ↦ added v (subst (λ (vs : List VersionRow). Contains vs v) (sym is) now)
    ])

-- ---- the indexes of a table

-- indexes of rows have the entries of fewer rows too
pub entries_of_fewer : (key : List ℕ) (old new : List VersionRow) (indexes : List SecondaryIndex) → ((v : VersionRow) → Contains new v → Contains old v) → HaveEntries key old indexes → HaveEntries key new indexes
entries_of_fewer key old new indexes among have = λ k d below. record {
  positions = (have k d below).positions;
  entries = λ v there. (have k d below).entries v (among v there);
}

pub has_more : (key : List ℕ) (rows : List VersionRow) (old new : SecondaryIndex) → HasMoreEntries old new → HasEntries key rows old → HasEntries key rows new
has_more key rows old new more has = record {
  positions = more.entry_positions ∙ has.positions ∙ ap (λ (ps : List ℕ). ps ++ key) (sym more.positions);
  entries = λ v there. subst (λ (ps : List ℕ). Contains (entries_of new) (version_key ps v)) (sym more.entry_positions) (more.entries (version_key old.entry_positions v) (has.entries v there));
}

-- an index with the entries of rows that begin has those of the rows before too
pub begun_added : (key : List ℕ) (rows : List PeriodRow) (before : List VersionRow) (moment : ℤ) (old now : SecondaryIndex) → HasMoreEntries old now → HasEntries key before old
    → ((row : PeriodRow) → Contains rows row → Contains (entries_of now) (key_values old.entry_positions row)) → HasEntries key (map (begun moment) rows ++ before) now
begun_added key rows before moment old now more has added = record {
  positions = (has_more key before old now more has).positions;
  entries = λ v there. elim (Contains-append_cases (map (begun moment) rows) before v there) [
    | inl new ↦ let (row, among, is) = from_map (begun moment) rows v new in
        subst (λ (u : VersionRow). Contains (entries_of now) (version_key now.entry_positions u)) is
        (subst (λ (ps : List ℕ). Contains (entries_of now) (key_values ps row)) (sym more.entry_positions) (added row among))
    | inr was ↦ (has_more key before old now more has).entries v was
  ];
}

-- each of the second indexes has at least the entries of the first at its place
abbrev pub AreMore : List SecondaryIndex → List SecondaryIndex → Type 0
AreMore old now = (k : ℕ) (d : SecondaryIndex) → k < length old → HasMoreEntries (get_or old k d) (get_or now k d)

-- the index at one place is another, with more entries
pub more_set : (old now : List SecondaryIndex) (i : ℕ) (d w : SecondaryIndex) → length now ≡ length old → i < length now → HasMoreEntries (get_or now i d) w → AreMore old now → AreMore old (set now i w)
more_set old now i d w size inside more each = λ k e below.
    let other : (k ≡ i → ⊥) → HasMoreEntries (get_or old k e) (get_or (set now i w) k e) = λ apart. subst (HasMoreEntries (get_or old k e)) (sym (get_or-set_other now i k w e apart)) (each k e below) in
    elim (cases_lt k i) [
      | inl before ↦ other (λ same. omega (arith, before, same))
      | inr from ↦ elim (cases_lt i k) [
        | inl after ↦ other (λ same. omega (arith, after, same))
        | inr to ↦ let here : i ≡ k = omega (arith, from, to) in
            subst (λ (n : ℕ). HasMoreEntries (get_or old n e) (get_or (set now i w) n e)) here
            (subst (HasMoreEntries (get_or old i e)) (sym (get_or-set_same now i w e inside))
            (more_after (get_or old i e) (get_or now i e) w (each i e (omega (arith, size, inside))) (subst (λ (x : SecondaryIndex). HasMoreEntries x w) (get_or_default now i d e inside) more)))
      ]
    ]

pub more_kept : (key : List ℕ) (before : List VersionRow) (old now : List SecondaryIndex) → length now ≡ length old → AreMore old now → HaveEntries key before old → HaveEntries key before now
more_kept key before old now size more have = λ k d below.
    let inside : k < length old = omega (arith, size, below) in
    has_more key before (get_or old k d) (get_or now k d) (more k d inside) (have k d inside)

-- the first indexes have the entries of all rows
abbrev pub HaveAdded : List PeriodRow → List SecondaryIndex → List SecondaryIndex → ℕ → Type 0
HaveAdded rows old now count = (k : ℕ) (d : SecondaryIndex) → k < count → (row : PeriodRow) → Contains rows row → Contains (entries_of (get_or now k d)) (key_values (get_or old k d).entry_positions row)

pub added_more : (rows : List PeriodRow) (old now : List SecondaryIndex) (i : ℕ) (d w : SecondaryIndex) → length now ≡ length old → i < length now → AreMore old now
    → ((row : PeriodRow) → Contains rows row → Contains (entries_of w) (key_values (get_or now i d).entry_positions row)) → HaveAdded rows old now i → HaveAdded rows old (set now i w) (i + 1)
added_more rows old now i d w size inside more own each = λ k e below row there.
    elim (cases_lt k i) [
      | inl before ↦ subst (λ (x : SecondaryIndex). Contains (entries_of x) (key_values (get_or old k e).entry_positions row)) (sym (get_or-set_other now i k w e (λ same. omega (arith, before, same)))) (each k e before row there)
      | inr from ↦ let here : i ≡ k = omega (arith, from, below) in
          subst (λ (n : ℕ). Contains (entries_of (get_or (set now i w) n e)) (key_values (get_or old n e).entry_positions row)) here
          (subst (λ (x : SecondaryIndex). Contains (entries_of x) (key_values (get_or old i e).entry_positions row)) (sym (get_or-set_same now i w e inside))
          (subst (λ (ps : List ℕ). Contains (entries_of w) (key_values ps row)) (ap (λ (x : SecondaryIndex). x.entry_positions) (get_or_default now i d e inside) ∙ (more i e (omega (arith, size, inside))).entry_positions) (own row there)))
    ]
