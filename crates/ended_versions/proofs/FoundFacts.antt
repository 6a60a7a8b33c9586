-- The way through the versions of one hash, and the hashes of more versions and of fewer.
use Rattle.std.proofs.Common.{◌≡◌, ◌≤ℤ◌, ◌≤◌, ◌<◌, ◌+◌, ◌&&◌, ◌++◌, ◌∷◌, [], ◌∙◌, ℕ, Bool, true, false, cond, not, List, Option, None, Some, append-nil, append_assoc, suc, length, get_or, map, reverse, take, refl, sym, ap, subst, inl, inr, arith}
use Rattle.std.specs.Prelude.{nat_lt, option_to_list}
use Rattle.std.specs.List.{All, cons_option, filter, filter_map, slice_get}
use Rattle.std.proofs.lemmas.Bool.{and_from, and_left, and_parts, and_right, cases_lt, eq-eqb, ltb-true, ne_eqb, not_from_true, or_from, or_right}
use Rattle.std.proofs.lemmas.Int.{ints}
use Rattle.std.proofs.lemmas.List.{get_or-map, get_or-take, get_or_default, get_or_append_left, get_or_push, length-append, length-map, length-take-le, length_push, reverse-append, take_all}
use Rattle.std.proofs.lemmas.List.Elements.{All-map, All-weaker, filter-append, filter_more}
use Rattle.std.proofs.lemmas.Option.{slice_get_cases}
use Rattle.period_core.specs.Windows.{window_sees}
use Rattle.period_core.specs.declared.value.Value.{Value}
use Rattle.period_core.specs.declared.version.VersionRow.{VersionRow}
use Rattle.period_core.specs.declared.window.Window.{Window}
use Rattle.ended_versions.specs.Bounds.{ends_late}
use Rattle.ended_versions.specs.Chains.{IsLastPlace, behind}
use Rattle.ended_versions.specs.Entries.{AreInOrder, packed_in}
use Rattle.ended_versions.specs.Found.{AreChainedIn, AreHashes, IsVersionIfSeen, first_chained}
use Rattle.ended_versions.specs.Hashes.{has_each, hash_at, hash_of, may_have, shares_hash}
use Rattle.ended_versions.specs.Packed.{Hold, PackedVersion, packed, seen_through}
use Rattle.ended_versions.specs.declared.blocks.VersionEntry.{VersionEntry}
use Rattle.ended_versions.specs.declared.chained_values.ChainedValues.{ChainedValues}
use Rattle.ended_versions.proofs.BoundFacts.{ends_early}
use Rattle.ended_versions.proofs.PackedFacts.{OfColumns, same_version}
use Rattle.ended_versions.proofs.WalkFacts.{none_between}

-- ---- tests of a list

filter_both : {X : Type 0} (first second : X → Bool) (xs : List X) → filter (λ x. first x && second x) xs ≡ filter second (filter first xs)
filter_both first second [] = refl
filter_both {X} first second (x ∷ xs) = go (first x) (second x) refl (filter_both first second xs)
  where
    go : (a b : Bool) → second x ≡ b → filter (λ x. first x && second x) xs ≡ filter second (filter first xs)
        → cond (a && b) (x ∷ filter (λ x. first x && second x) xs) (filter (λ x. first x && second x) xs)
        ≡ filter second (cond a (x ∷ filter first xs) (filter first xs))
    go true true is same = ap (λ (ys : List X). x ∷ ys) same ∙ sym (ap (λ (b : Bool). cond b (x ∷ filter second (filter first xs)) (filter second (filter first xs))) is)
    go true false is same = same ∙ sym (ap (λ (b : Bool). cond b (x ∷ filter second (filter first xs)) (filter second (filter first xs))) is)
    go false b is same = same

-- a filter of a reversed list is the reversed filter
pub filter-reverse : {X : Type 0} (test : X → Bool) (xs : List X) → filter test (reverse xs) ≡ reverse (filter test xs)
filter-reverse test [] = refl
filter-reverse {X} test (x ∷ xs) =
    ap (filter test) (reverse-append (x ∷ []) xs)
    ∙ (filter-append test (reverse xs) (x ∷ [])
    ∙ (ap (λ (ys : List X). ys ++ filter test (x ∷ [])) (filter-reverse test xs) ∙ go (test x)))
  where
    go : (b : Bool) → reverse (filter test xs) ++ cond b (x ∷ []) [] ≡ reverse (cond b (x ∷ filter test xs) (filter test xs))
    go true = sym (reverse-append (x ∷ []) (filter test xs))
    go false = append-nil (reverse (filter test xs))

-- ---- the versions of one hash

-- if there is a value at each position, there are as many values as positions
pub has_as_many : (positions : List ℕ) (values : List Value) → has_each positions values ≡ true → length (filter_map (slice_get values) positions) ≡ length positions
has_as_many [] values each = refl
has_as_many (p ∷ ps) values each =
    let (here, more) = and_parts (nat_lt p (length values)) (has_each ps values) each in
    let below : p < length values = ltb-true p (length values) here in
    let (same, cases) = slice_get_cases values p in
    let rest : List Value = filter_map (slice_get values) ps in
    elim cases [
      | inl there ↦ ap (λ (o : Option Value). length (cons_option o rest)) there.2 ∙ ap suc (has_as_many ps values more)
      | inr past ↦ absurd (omega (arith, below, past.0))
    ]

abbrev pub matches : List ℕ → Window → List Value → VersionRow → Bool
matches positions window key v = window_sees window v.from v.to && may_have positions key v

-- the versions found, down to a place
abbrev pub FoundTo : List ℕ → Window → List Value → List VersionRow → Option ℕ → List VersionRow → Type 0
FoundTo positions window key versions place seen =
    reverse (filter (matches positions window key) versions) ≡ seen ++ reverse (filter (matches positions window key) (take (behind place) versions))

module _ (positions : List ℕ) (list : List PackedVersion) (hashes : List ℕ) (are : AreHashes positions list hashes) (all : length hashes ≡ length list) (window : Window) (key : List Value) (versions : List VersionRow) (hold : Hold list versions) where
  abbrev test : VersionRow → Bool
  test = matches positions window key

  abbrev IsFound : Option ℕ → List VersionRow → Type 0
  IsFound = FoundTo positions window key versions

  as_many : length hashes ≡ length versions
  as_many = all ∙ (ap length (sym hold.same) ∙ length-map versions packed)

  -- the hash at a place, of a version that has each of the values
  its_hash : (place : ℕ) (d : VersionRow) (e : ℕ) → place < length versions
      → (get_or hashes place e ≡ hash_at positions (get_or versions place d)) × (has_each positions (get_or versions place d).values ≡ true)
  its_hash place d e below =
      are.each place (packed d) e (get_or versions place d) (let sizes = as_many in omega (arith, sizes)) (hold.held place d below)
      (sym (get_or-map packed versions place d (packed d) below) ∙ ap (λ (l : List PackedVersion). get_or l place (packed d)) hold.same)

  -- no version between the place and the bound has the hash
  none_there : (bound : ℕ) (place : Option ℕ) (d : VersionRow) → bound ≤ length versions → IsLastPlace hashes bound (hash_of key) place → filter test (take bound versions) ≡ filter test (take (behind place) versions)
  none_there bound place d within is =
      none_between test versions d (behind place) bound is.within within
      (λ k from below.
      and_right (window_sees window (get_or versions k d).from (get_or versions k d).to) (may_have positions key (get_or versions k d))
      (or_from (not (has_each positions (get_or versions k d).values)) (shares_hash positions key (get_or versions k d))
      (not_from_true (has_each positions (get_or versions k d).values) (its_hash k d 0 (omega arith)).1)
      (ne_eqb (hash_at positions (get_or versions k d)) (hash_of key) (λ e. is.only k 0 from below ((its_hash k d 0 (omega arith)).0 ∙ e)))))

  nothing : (n : ℕ) → filter test (take n []) ≡ []
  nothing n = ap (filter test) (take_all n [] (omega arith))

  pub found_first : (place : Option ℕ) → IsLastPlace hashes (length hashes) (hash_of key) place → IsFound place []
  found_first place is =
      ap reverse
      (ap (filter test) (sym (take_all (length versions) versions (omega arith)))
      ∙ go versions refl (subst (λ (bound : ℕ). IsLastPlace hashes bound (hash_of key) place) as_many is))
    where
      go : (vs : List VersionRow) → vs ≡ versions → IsLastPlace hashes (length versions) (hash_of key) place → filter test (take (length versions) versions) ≡ filter test (take (behind place) versions)
      go [] same last =
          ap (λ (vs : List VersionRow). filter test (take (length versions) vs)) (sym same)
          ∙ (nothing (length versions) ∙ (sym (nothing (behind place)) ∙ ap (λ (vs : List VersionRow). filter test (take (behind place) vs)) same))
      go (v ∷ vs) same last = none_there (length versions) place v (omega arith) last

  pub found_more :
      (place : ℕ) (next : Option ℕ) (seen : List VersionRow) (d : VersionRow) (found : Option VersionRow) → place < length versions → ((e : ℕ) → get_or hashes place e ≡ hash_of key)
      → IsFound (Some place) seen → IsLastPlace hashes place (hash_of key) next → IsVersionIfSeen window (get_or versions place d) found → IsFound next (seen ++ option_to_list found)
  found_more place next seen d found below hash so_far is its =
      so_far
      ∙ (ap (λ (l : List VersionRow). seen ++ reverse l) (filter_more test versions place d below)
      ∙ (ap (λ (l : List VersionRow). seen ++ l) (reverse-append (filter test (take place versions)) (cond (test v) (v ∷ []) []))
      ∙ (ap (λ (l : List VersionRow). seen ++ (reverse (cond (test v) (v ∷ []) []) ++ reverse l)) (none_there place next d (omega arith) is)
      ∙ (ap (λ (l : List VersionRow). seen ++ (l ++ reverse (filter test (take (behind next) versions)))) (one found its)
      ∙ sym (append_assoc seen (option_to_list found) (reverse (filter test (take (behind next) versions))))))))
    where
      v : VersionRow
      v = get_or versions place d

      may : may_have positions key v ≡ true
      may =
          or_right (not (has_each positions v.values)) (shares_hash positions key v)
          (eq-eqb (hash_at positions v) (hash_of key) (sym (its_hash place d 0 below).0 ∙ hash 0))

      one : (o : Option VersionRow) → IsVersionIfSeen window v o → reverse (cond (test v) (v ∷ []) []) ≡ option_to_list o
      one None unseen = ap (λ (b : Bool). reverse (cond b (v ∷ []) [])) (and_left (window_sees window v.from v.to) (may_have positions key v) unseen)
      one (Some w) (sees, same) =
          ap (λ (b : Bool). reverse (cond b (v ∷ []) [])) (and_from (window_sees window v.from v.to) (may_have positions key v) sees may)
          ∙ ap (λ (x : VersionRow). x ∷ []) (sym same)

  pub found_all : (place : Option ℕ) (seen : List VersionRow) → place ≡ None → IsFound place seen → seen ≡ reverse (filter (may_have positions key) (seen_through window versions))
  found_all place seen none found =
      sym (append-nil seen)
      ∙ (sym (subst (λ (o : Option ℕ). IsFound o seen) none found)
      ∙ ap reverse (filter_both (λ (v : VersionRow). window_sees window v.from v.to) (may_have positions key) versions))

  -- all are found if the window sees none up to the place
  pub found_late : (place : ℕ) (next : Option ℕ) (seen : List VersionRow) → next ≡ Some place → seen_through window (take (place + 1) versions) ≡ [] → IsFound next seen
      → seen ≡ reverse (filter (may_have positions key) (seen_through window versions))
  found_late place next seen at none found =
      sym (append-nil seen)
      ∙ (ap (λ (l : List VersionRow). seen ++ reverse l) (sym (filter_both sees (may_have positions key) (take (place + 1) versions) ∙ ap (filter (may_have positions key)) none))
      ∙ (sym (subst (λ (o : Option ℕ). IsFound o seen) at found)
      ∙ ap reverse (filter_both sees (may_have positions key) versions)))
    where
      sees : VersionRow → Bool
      sees v = window_sees window v.from v.to

-- ---- hashes of more versions, and of fewer

-- more versions after those that the hashes are of
pub hashes_kept : (positions : List ℕ) (list more : List PackedVersion) (hashes : List ℕ) → AreHashes positions list hashes → AreHashes positions (list ++ more) hashes
hashes_kept positions list more hashes are =
    let was = are.within in
    record {
      within = (let size = length-append list more in omega (arith, was, size));
      each = λ place d e v below columns same. are.each place d e v below columns (same ∙ get_or_append_left list more d place (omega (arith, was)));
    }

-- no hashes yet
pub hashes_none : (positions : List ℕ) (list : List PackedVersion) (hashes : List ℕ) → hashes ≡ [] → AreHashes positions list hashes
hashes_none positions list hashes none =
    let size : length hashes ≡ 0 = ap length none in
    record { within = omega (arith, size); each = λ place d e v below columns same. absurd (omega (arith, size, below)) }

-- the hash of the next version, which has each of the values
pub hashes_more : (positions : List ℕ) (list : List PackedVersion) (hashes : List ℕ) (version : VersionRow) → AreHashes positions list hashes → length hashes < length list → OfColumns version → has_each positions version.values ≡ true
    → ((d : PackedVersion) → packed version ≡ get_or list (length hashes) d) → AreHashes positions list (hashes ++ hash_at positions version ∷ [])
hashes_more positions list hashes version are inside held whole is =
    let one = length_push hashes (hash_at positions version) in
    record {
      within = omega (arith, one, inside);
      each = λ place d e v below columns same. elim (cases_lt place (length hashes)) [
        | inl lt ↦ (let (hash, each) = are.each place d e v lt columns same in (get_or_append_left hashes (hash_at positions version ∷ []) e place lt ∙ hash, each))
        | inr ge ↦ (let at : length hashes ≡ place = omega (arith, one) in
            let next : v ≡ version = same_version v version columns held (same ∙ (ap (λ (n : ℕ). get_or list n d) (sym at) ∙ sym (is d))) in (
              get_or_push hashes (hash_at positions version) e place at ∙ sym (ap (hash_at positions) next),
              ap (λ (w : VersionRow). has_each positions w.values) next ∙ whole,
            ))
      ];
    }

pub hashes_first : (positions : List ℕ) (list : List PackedVersion) (hashes : List ℕ) (count : ℕ) → AreHashes positions list hashes → AreHashes positions (take count list) (take count hashes)
hashes_first positions list hashes count are = elim (cases_lt count (length hashes)) [
  | inl fewer ↦ (let was = are.within in
      let many = length-take-le count list (omega (arith, was)) in
      let other = length-take-le count hashes (omega arith) in record {
        within = omega (arith, many, other);
        each = λ place d e v below columns same.
            let (hash, each) = are.each place d e v (omega (arith, other)) columns (same ∙ get_or-take count list place d (omega (arith, other))) in
            (get_or-take count hashes place e (omega (arith, other)) ∙ hash, each);
      })
  | inr every ↦ subst (AreHashes positions (take count list)) (sym (take_all count hashes every)) (record {
    within = elim (cases_lt count (length list)) [
      | inl fewer ↦ (let many = length-take-le count list (omega arith) in omega (arith, many))
      | inr all ↦ (let was = are.within in let same = ap length (take_all count list all) in omega (arith, was, same))
    ];
    each = λ place d e v below columns same. are.each place d e v below columns (same ∙ get_or-take count list place d (omega arith));
  })
]

-- ---- several chains

-- more versions after those that are chained
pub chained_kept : (list more : List PackedVersion) (chained : List ChainedValues) → All (AreChainedIn list) chained → All (AreChainedIn (list ++ more)) chained
chained_kept list more chained are =
    All-weaker (AreChainedIn list) (AreChainedIn (list ++ more)) (λ c its. hashes_kept c.positions list more c.hashes its) chained are

-- the first so many, in the first part of each of the chains
pub chained_first : (list : List PackedVersion) (chained : List ChainedValues) (count : ℕ) → All (AreChainedIn list) chained → All (AreChainedIn (take count list)) (map (first_chained count) chained)
chained_first list chained count are =
    All-map (AreChainedIn (take count list)) (first_chained count) chained
    (All-weaker (AreChainedIn list) (λ (c : ChainedValues). AreChainedIn (take count list) (first_chained count c)) (λ c its. hashes_first c.positions list c.hashes count its) chained are)

-- ---- the version at a place

pub packed_at : (bytes : List ℕ) (entries : List VersionEntry) (list : List PackedVersion) (versions : List VersionRow) (place : ℕ) (d : VersionRow) (entry : VersionEntry) → map (packed_in bytes) entries ≡ list → Hold list versions → place < length list
    → entry ≡ get_or entries place entry → packed (get_or versions place d) ≡ packed_in bytes entry
packed_at bytes entries list versions place d entry view hold below is =
    let many = length-map versions packed in
    let same = ap length hold.same in
    let kept = length-map entries (packed_in bytes) in
    let size = ap length view in
    sym (get_or-map packed versions place d (packed d) (omega (arith, many, same)))
    ∙ (ap (λ (l : List PackedVersion). get_or l place (packed d)) (hold.same ∙ sym view)
    ∙ (get_or-map (packed_in bytes) entries place entry (packed d) (omega (arith, kept, size)) ∙ ap (packed_in bytes) (sym is)))

pub held_at : (list : List PackedVersion) (versions : List VersionRow) (place : ℕ) (d : VersionRow) → Hold list versions → place < length list → OfColumns (get_or versions place d)
held_at list versions place d hold below =
    let many = length-map versions packed in
    let same = ap length hold.same in
    hold.held place d (omega (arith, many, same))

-- if the version at a place ends too early to be seen, the window sees none up to it
pub none_seen :
    (bytes : List ℕ) (entries : List VersionEntry) (list : List PackedVersion) (versions : List VersionRow) (window : Window) (place : ℕ) (entry : VersionEntry) → AreInOrder entries → map (packed_in bytes) entries ≡ list → Hold list versions
    → place < length list → entry ≡ get_or entries place entry → ends_late window entry.to ≡ false → seen_through window (take (place + 1) versions) ≡ []
none_seen bytes entries list versions window place entry order view hold below is late =
    go versions refl
  where
    sees : VersionRow → Bool
    sees v = window_sees window v.from v.to

    many : length entries ≡ length list
    many = sym (length-map entries (packed_in bytes)) ∙ ap length view

    as_many : length versions ≡ length list
    as_many = sym (length-map versions packed) ∙ ap length hold.same

    early : (k : ℕ) → k ≤ place → (get_or entries k entry).to ≤ℤ entry.to
    early k le = elim (cases_lt k place) [
      | inl lt ↦ subst (λ (e : VersionEntry). (get_or entries k entry).to ≤ℤ e.to) (sym is) (order k place entry lt (let size = many in omega (arith, size, below))).ended
      | inr ge ↦ (let at : k ≡ place = omega arith in
          let same : (get_or entries k entry).to ≡ entry.to = ap (λ (n : ℕ). (get_or entries n entry).to) at ∙ ap (λ (e : VersionEntry). e.to) (sym is) in
          omega (arith, ints, same))
    ]

    unseen : (d : VersionRow) (k : ℕ) → k ≤ place → sees (get_or versions k d) ≡ false
    unseen d k le =
        let here : k < length list = omega (arith, below, le) in
        let e : VersionEntry = get_or entries k entry in
        let same : packed (get_or versions k d) ≡ packed_in bytes e =
        packed_at bytes entries list versions k d e view hold here (get_or_default entries k entry e (let size = many in omega (arith, size, here))) in
        ap (λ (p : PackedVersion). window_sees window p.from p.to) same
        ∙ ends_early window entry.to e.from e.to late (early k le)

    go : (vs : List VersionRow) → vs ≡ versions → seen_through window (take (place + 1) versions) ≡ []
    go [] same = absurd (let none : length versions ≡ 0 = ap length (sym same) in let size = as_many in omega (arith, none, size, below))
    go (v ∷ vs) same =
        none_between sees versions v 0 (place + 1) (omega arith) (let size = as_many in omega (arith, size, below)) (λ k from under. unseen v k (omega arith))

-- the search follows the chain by one version
pub found_step :
    (positions : List ℕ) (list : List PackedVersion) (hashes : List ℕ) (are : AreHashes positions list hashes) (all : length hashes ≡ length list) (window : Window) (key : List Value) (versions : List VersionRow) (hold : Hold list versions)
    (place : ℕ) (next : Option ℕ) (seen : List VersionRow) (found : Option VersionRow) → place < length hashes → ((e : ℕ) → get_or hashes place e ≡ hash_of key)
    → FoundTo positions window key versions (Some place) seen → IsLastPlace hashes place (hash_of key) next → ((d : VersionRow) → IsVersionIfSeen window (get_or versions place d) found)
    → FoundTo positions window key versions next (seen ++ option_to_list found)
found_step positions list hashes are all window key versions hold place next seen found below hash so_far is its =
    let many : length hashes ≡ length versions = all ∙ (ap length (sym hold.same) ∙ length-map versions packed) in
    go versions refl (omega (arith, many))
  where
    go : (vs : List VersionRow) → vs ≡ versions → place < length versions → FoundTo positions window key versions next (seen ++ option_to_list found)
    go [] same inside = absurd (let none : length versions ≡ 0 = ap length (sym same) in omega (arith, none, inside))
    go (v ∷ vs) same inside = found_more positions list hashes are all window key versions hold place next seen v found inside hash so_far is (its v)
