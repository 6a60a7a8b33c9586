-- Keys in a range: in the order of keys they are next to each other, but for some that are passed over.
use Rattle.std.proofs.Common.{◌≡◌, ◌&&◌, ◌⊎◌, ◌++◌, ◌∷◌, [], ◌∙◌, ℕ, Bool, true, false, cond, List, None, Option, Some, inl, inr, length, not, take, filter, refl, sym, ap, ap₂, append-nil, arith, subst}
use Rattle.std.specs.Prelude.{⊤, ◌↔◌, IsTrue}
use Rattle.std.specs.Cmp.{both_ways}
use Rattle.std.specs.Vec.{vec_len}
use Rattle.std.specs.List.{AllByRecursion, Contains, slice_get}
use Rattle.std.specs.List.Sorted.{IsStrictlySortedBy}
use Rattle.std.specs.Map.{keys_of}
use Rattle.std.specs.Ordering.{is_eq, is_gt, is_le, is_lt, ordering_reverse, ordering_then}
use Rattle.std.specs.declared.cmp.Ordering.{Ordering}
use Rattle.std.specs.declared.cmp.Ordering.TheVariants.{Less, Equal, Greater}
use Rattle.std.specs.declared.ops.Bound.TheVariants as bound
use Rattle.std.specs.BTreeMap.Range.{range_contains}
use Rattle.std.proofs.lemmas.Bool.{and_parts, false≢true}
use Rattle.std.proofs.lemmas.Cmp.{tied_itself}
use Rattle.std.proofs.lemmas.List.Elements.{Contains-append_right, filter-append}
use Rattle.period_core.specs.Order.{value_cmp, values_cmp}
use Rattle.period_core.specs.OrderLaws.{value_cmp-same, value_cmp_total, values_eq}
use Rattle.period_core.specs.declared.value.Value.{Value}
use Rattle.temporal_model.proofs.Members.{Contains-here}
use Rattle.period_keys.specs.declared.key_range.KeyRange.{KeyRange}
use Rattle.period_keys.specs.declared.key_range.Limit.{Limit}
use Rattle.period_keys.specs.declared.key_range.Limit.TheVariants.{Included, Excluded, Unbounded}
use Rattle.period_keys.specs.Ranges.{begins_with, first_values, is_above, is_at_lower, is_below, is_in_range, is_passed_over, limit_values}
use Rattle.period_keys.proofs.Members.{from_filter}

-- ---- in the order of values

-- a value that is not after one within an upper limit is within it
not_after : (test : Ordering → Bool) → test Less ≡ true → test Greater ≡ false → (a b u : Value) (r s : Ordering) → value_cmp a b ≡ r → value_cmp b u ≡ s → not (is_gt r) ≡ true → test s ≡ true → test (value_cmp a u) ≡ true
not_after test less greater a b u Less Less ab bu le h = ap test (value_cmp_total.trans a b u ab bu) ∙ less
not_after test less greater a b u Less Equal ab bu le h = ap test (ap (value_cmp a) (sym (value_cmp-same b u bu)) ∙ ab) ∙ less
not_after test less greater a b u Less Greater ab bu le h = absurd (false≢true (sym greater ∙ h))
not_after test less greater a b u Equal s ab bu le h = ap test (value_cmp_total.congr a b u ab ∙ bu) ∙ h
not_after test less greater a b u Greater s ab bu le h = absurd (false≢true le)

below_down : (upper : Limit) (a b : Value) → not (is_gt (value_cmp a b)) ≡ true → is_below upper (Some b) ≡ true → is_below upper (Some a) ≡ true
below_down (Included u) a b le h = not_after (λ (r : Ordering). not (is_gt r)) refl refl a b u (value_cmp a b) (value_cmp b u) refl refl le h
below_down (Excluded u) a b le h = not_after (λ (r : Ordering). is_lt r) refl refl a b u (value_cmp a b) (value_cmp b u) refl refl le h
below_down Unbounded a b le h = refl

-- ---- in the order of keys

-- the second list begins with the first
abbrev pub Leads : List Value → List Value → Type 0
Leads leading key = leading ≡ take (length leading) key

nothing_first : (k : List Value) → is_le (values_cmp [] k) ≡ true
nothing_first [] = refl
nothing_first (y ∷ k) = refl

le_then : (r : Ordering) (k : List Value) → not (is_lt r) ≡ true → is_le (ordering_then (ordering_reverse r) (values_cmp [] k)) ≡ true
le_then Less k h = absurd (false≢true h)
le_then Equal k h = nothing_first k
le_then Greater k h = refl

gt_not_lt : (r : Ordering) → is_gt r ≡ true → not (is_lt r) ≡ true
gt_not_lt Less h = absurd (false≢true h)
gt_not_lt Equal h = refl
gt_not_lt Greater h = refl

le_limit : (v y : Value) (k : List Value) → not (is_lt (value_cmp y v)) ≡ true → is_le (values_cmp (v ∷ []) (y ∷ k)) ≡ true
le_limit v y k h = ap (λ (r : Ordering). is_le (ordering_then r (values_cmp [] k))) (value_cmp_total.antisymm v y) ∙ le_then (value_cmp y v) k h

limit_first : (lower : Limit) (k : List Value) → is_above lower (slice_get k 0) ≡ true → is_le (values_cmp (limit_values lower) k) ≡ true
limit_first (Included v) [] h = absurd (false≢true h)
limit_first (Included v) (y ∷ k) h = le_limit v y k h
limit_first (Excluded v) [] h = absurd (false≢true h)
limit_first (Excluded v) (y ∷ k) h = le_limit v y k (gt_not_lt (value_cmp y v) h)
limit_first Unbounded k h = nothing_first k

-- a key that begins with the values, and has the next one within the lower limit, is not before these
not_before : (p : List Value) (lower : Limit) (k : List Value) → Leads p k → is_above lower (slice_get k (length p)) ≡ true → is_le (values_cmp (p ++ limit_values lower) k) ≡ true
not_before [] lower k leads h = limit_first lower k h
not_before (x ∷ p) lower [] leads h = absurd cc
not_before (x ∷ p) lower (y ∷ k) leads h =
    let same : x ≡ y = cc in
    let rest : Leads p k = cc in
    let tie : value_cmp x y ≡ Equal = subst (λ (z : Value). value_cmp x z ≡ Equal) same (tied_itself value_cmp_total x) in
    ap (λ (r : Ordering). is_le (ordering_then r (values_cmp (p ++ limit_values lower) k))) tie ∙ not_before p lower k rest h

-- the next value is within both limits, or is passed over
abbrev pub IsNext : Limit → Limit → Option Value → Type 0
IsNext lower upper value = ((is_above lower value ≡ true) × (is_below upper value ≡ true)) ⊎ (is_at_lower lower value ≡ true)

le_of_then : (r s : Ordering) → ordering_then r s ≡ Less → not (is_gt r) ≡ true
le_of_then Less s h = refl
le_of_then Equal s h = refl
le_of_then Greater s h = absurd cc

none_passed : (lower : Limit) → is_at_lower lower None ≡ true
none_passed (Included v) = refl
none_passed (Excluded v) = refl
none_passed Unbounded = refl

-- a value that the lower limit is not after
from_limit : (lower upper : Limit) (y : Value) (k : List Value) → is_le (values_cmp (limit_values lower) (y ∷ k)) ≡ true → is_below upper (Some y) ≡ true → IsNext lower upper (Some y)
from_limit (Included v) upper y k from below = inl (by_order (value_cmp y v) refl, below)
  where
    by_order : (r : Ordering) → value_cmp y v ≡ r → not (is_lt (value_cmp y v)) ≡ true
    by_order Less is = absurd (false≢true (sym (ap (λ (r : Ordering). is_le (ordering_then r (values_cmp [] k))) (value_cmp_total.antisymm v y ∙ ap ordering_reverse is)) ∙ from))
    by_order Equal is = ap (λ (r : Ordering). not (is_lt r)) is
    by_order Greater is = ap (λ (r : Ordering). not (is_lt r)) is
from_limit (Excluded v) upper y k from below = by_order (value_cmp y v) refl
  where
    by_order : (r : Ordering) → value_cmp y v ≡ r → IsNext (Excluded v) upper (Some y)
    by_order Less is = absurd (false≢true (sym (ap (λ (r : Ordering). is_le (ordering_then r (values_cmp [] k))) (value_cmp_total.antisymm v y ∙ ap ordering_reverse is)) ∙ from))
    by_order Equal is = inr (ap is_eq is)
    by_order Greater is = inl (ap is_gt is, below)
from_limit Unbounded upper y k from below = inl (refl, below)

next_of : (lower upper : Limit) (k l : List Value) → is_le (values_cmp (limit_values lower) k) ≡ true → values_cmp k l ≡ Less → is_below upper (slice_get l 0) ≡ true → IsNext lower upper (slice_get k 0)
next_of lower upper [] l from less below = inr (none_passed lower)
next_of lower upper (y ∷ k) [] from less below = absurd cc
next_of lower upper (y ∷ k) (z ∷ l) from less below = from_limit lower upper y k from (below_down upper y z (le_of_then (value_cmp y z) (values_cmp k l) less) below)

-- between the first values and a key in the range, each key is in it or is passed over
between : (p : List Value) (lower upper : Limit) (k l : List Value) → is_le (values_cmp (p ++ limit_values lower) k) ≡ true → values_cmp k l ≡ Less → Leads p l → is_below upper (slice_get l (length p)) ≡ true
    → Leads p k × IsNext lower upper (slice_get k (length p))
between [] lower upper k l from less leads below = (refl, next_of lower upper k l from less below)
between (x ∷ p) lower upper k [] from less leads below = absurd cc
between (x ∷ p) lower upper [] (z ∷ l) from less leads below = absurd (false≢true from)
between (x ∷ p) lower upper (y ∷ k) (z ∷ l) from less leads below = by_order (λ behind later. between p lower upper k l behind later rest below) (value_cmp x y) refl
  where
    same : x ≡ z
    same = cc

    rest : Leads p l
    rest = cc

    start : List Value
    start = p ++ limit_values lower

    by_order : (is_le (values_cmp start k) ≡ true → values_cmp k l ≡ Less → Leads p k × IsNext lower upper (slice_get k (length p))) → (r : Ordering) → value_cmp x y ≡ r → Leads (x ∷ p) (y ∷ k) × IsNext lower upper (slice_get k (length p))
    by_order others Less is =
        let turned : value_cmp y z ≡ Greater = ap (value_cmp y) (sym same) ∙ value_cmp_total.antisymm y x ∙ ap ordering_reverse is in
        absurd (let wrong : Greater ≡ Less = sym (ap (λ (r : Ordering). ordering_then r (values_cmp k l)) turned) ∙ less in cc)
    by_order others Equal is =
        let tied : x ≡ y = value_cmp-same x y is in
        let level : value_cmp y z ≡ Equal = subst (λ (v : Value). value_cmp v z ≡ Equal) tied (subst (λ (v : Value). value_cmp x v ≡ Equal) same (tied_itself value_cmp_total x)) in
        let later : values_cmp k l ≡ Less = sym (ap (λ (r : Ordering). ordering_then r (values_cmp k l)) level) ∙ less in
        let behind : is_le (values_cmp start k) ≡ true = sym (ap (λ (r : Ordering). is_le (ordering_then r (values_cmp start k))) is) ∙ from in
        let its = others behind later in
        (ap₂ (λ (v : Value) (vs : List Value). v ∷ vs) tied its.0, its.1)
    by_order others Greater is = absurd (false≢true (sym (ap (λ (r : Ordering). is_le (ordering_then r (values_cmp start k))) is) ∙ from))

-- a test of whether a key leads a list is `begins_with`
pub begins_is : (b : Bool) (p k : List Value) → (IsTrue b ↔ Leads p k) → b ≡ begins_with p k
begins_is b p k decides =
    both_ways b (begins_with p k) (λ is. (values_eq p (take (length p) k)).1 (decides.0 is)) (λ is. decides.1 ((values_eq p (take (length p) k)).0 is))

pub and_is : (a b : Bool) → a ≡ true → b ≡ (a && b)
and_is a b is = sym (ap (λ (t : Bool). t && b) is)

pub and_not : (t a b : Bool) → t ≡ a → t ≡ false → t ≡ (a && b)
and_not t a b same not = not ∙ sym (ap (λ (u : Bool). u && b) (sym same ∙ not))

-- the next value of a key, by the number of leading values
pub next_of_range : (test : Option Value → Bool) (range : KeyRange) (key : List Value) (count : ℕ) → count ≡ vec_len range.leading → test (slice_get key count) ≡ test (slice_get key (length range.leading.items))
next_of_range test range key count is = (let ok = range.leading.ok.0 in ap (λ (n : ℕ). test (slice_get key n)) (omega (arith, is, ok)))

-- ---- entries in the order of their keys

module _ {V : Type 0} (range : KeyRange) where
  -- the group's key is in the range
  abbrev pub is_in : List Value × V → Bool
  is_in group = is_in_range range group.0

  -- a group whose key is not before the first values
  abbrev pub is_from : List Value × V → Bool
  is_from group = range_contains values_cmp (bound.Included (first_values range)) bound.Unbounded group.0

  -- the first of the groups, if there is one, is neither in the range nor passed over
  abbrev pub StopsAt : List (List Value × V) → Type 0
  StopsAt [] = ⊤
  StopsAt (group ∷ groups) = (is_in group ≡ false) × (is_passed_over range group.0 ≡ false)

  parts : (group : List Value × V) → is_in group ≡ true
      → Leads range.leading.items group.0 × (is_above range.lower (slice_get group.0 (length range.leading.items)) ≡ true) × (is_below range.upper (slice_get group.0 (length range.leading.items)) ≡ true)
  parts group is =
      let next = slice_get group.0 (length range.leading.items) in
      let both = and_parts (begins_with range.leading.items group.0) (is_above range.lower next && is_below range.upper next) is in
      let limits = and_parts (is_above range.lower next) (is_below range.upper next) both.1 in
      ((values_eq range.leading.items (take (length range.leading.items) group.0)).0 both.0, limits.0, limits.1)

  in_from : (group : List Value × V) → is_in group ≡ true → is_from group ≡ true
  in_from group is = (let its = parts group is in
      ap (λ (b : Bool). b && true) (not_before range.leading.items range.lower group.0 its.0 its.1))

  -- after a group that is not before the first values, and neither in the range nor passed over, none is in the range
  none_behind : (first group : List Value × V) → is_from first ≡ true → is_in first ≡ false → is_passed_over range first.0 ≡ false → values_cmp first.0 group.0 ≡ Less → is_in group ≡ true → ⊥
  none_behind first group from out over less is =
      let its = parts group is in
      let n = length range.leading.items in
      let next = slice_get first.0 n in
      let found = between range.leading.items range.lower range.upper first.0 group.0 (and_parts (is_le (values_cmp (first_values range) first.0)) true from).0 less its.0 its.2 in
      let begins : begins_with range.leading.items first.0 ≡ true = (values_eq range.leading.items (take n first.0)).1 found.0 in
      elim found.1 [
        | inl both ↦ false≢true (sym out ∙ ap₂ (λ (a b : Bool). a && b) begins (ap₂ (λ (a b : Bool). a && b) both.0 both.1))
        | inr passed ↦ false≢true (sym over ∙ ap₂ (λ (a b : Bool). a && b) begins passed)
      ]

  none_after : (first : List Value × V) (groups : List (List Value × V)) → is_from first ≡ true → StopsAt (first ∷ []) → AllByRecursion (λ (key : List Value). values_cmp first.0 key ≡ Less) (keys_of groups) → filter is_in groups ≡ []
  none_after first [] from stops behind = refl
  none_after first (group ∷ groups) from stops behind = by_test (is_in group) refl (none_after first groups from stops behind.1)
    where
      by_test : (t : Bool) → is_in group ≡ t → filter is_in groups ≡ [] → filter is_in (group ∷ groups) ≡ []
      by_test true is rest = absurd (none_behind first group from stops.0 stops.1 behind.0 is)
      by_test false is rest = ap (λ (t : Bool). cond t (group ∷ filter is_in groups) (filter is_in groups)) is ∙ rest

  still_after : (k : List Value) (groups : List (List Value × V)) → AllByRecursion (λ (key : List Value). values_cmp k key ≡ Less) (keys_of groups) → AllByRecursion (λ (key : List Value). values_cmp k key ≡ Less) (keys_of (filter is_from groups))
  still_after k [] all = all
  still_after k (group ∷ groups) all = by_test (is_from group) (still_after k groups all.1)
    where
      by_test : (t : Bool) → AllByRecursion (λ (key : List Value). values_cmp k key ≡ Less) (keys_of (filter is_from groups)) → AllByRecursion (λ (key : List Value). values_cmp k key ≡ Less) (keys_of (cond t (group ∷ filter is_from groups) (filter is_from groups)))
      by_test true rest = (all.0, rest)
      by_test false rest = rest

  -- in an ordered list from the first values on, the groups after a group have later keys
  ordered_behind : (groups seen : List (List Value × V)) (group : List Value × V) (rest : List (List Value × V)) → IsStrictlySortedBy values_cmp (keys_of groups) → filter is_from groups ≡ seen ++ group ∷ rest → AllByRecursion (λ (key : List Value). values_cmp group.0 key ≡ Less) (keys_of rest)
  unfolding IsStrictlySortedBy
  ordered_behind [] [] group rest ordered split = absurd cc
  ordered_behind [] (s ∷ seen) group rest ordered split = absurd cc
  ordered_behind (first ∷ groups) seen group rest ordered split = by_test (λ seen split. ordered_behind groups seen group rest ordered.1 split) (is_from first) seen split
    where
      by_test : ((seen : List (List Value × V)) → filter is_from groups ≡ seen ++ group ∷ rest → AllByRecursion (λ (key : List Value). values_cmp group.0 key ≡ Less) (keys_of rest)) → (t : Bool) (seen : List (List Value × V)) → cond t (first ∷ filter is_from groups) (filter is_from groups) ≡ seen ++ group ∷ rest → AllByRecursion (λ (key : List Value). values_cmp group.0 key ≡ Less) (keys_of rest)
      by_test later true [] split =
          let same : first ≡ group = cc in
          let more : filter is_from groups ≡ rest = cc in
          subst (λ (g : List Value × V). AllByRecursion (λ (key : List Value). values_cmp g.0 key ≡ Less) (keys_of rest)) same
          (subst (λ (es : List (List Value × V)). AllByRecursion (λ (key : List Value). values_cmp first.0 key ≡ Less) (keys_of es)) more (still_after first.0 groups ordered.0))
      by_test later true (s ∷ seen) split = (let more : filter is_from groups ≡ seen ++ group ∷ rest = cc in later seen more)
      by_test later false seen split = later seen split

  through : (groups : List (List Value × V)) → filter is_in (filter is_from groups) ≡ filter is_in groups
  through [] = refl
  through (group ∷ groups) = by_test (is_from group) (is_in group) refl refl (through groups)
    where
      by_test : (f t : Bool) → is_from group ≡ f → is_in group ≡ t → filter is_in (filter is_from groups) ≡ filter is_in groups → filter is_in (cond f (group ∷ filter is_from groups) (filter is_from groups)) ≡ filter is_in (group ∷ groups)
      by_test true t from is rest = ap (λ (es : List (List Value × V)). cond (is_in group) (group ∷ es) es) rest
      by_test false true from is rest = absurd (false≢true (sym from ∙ in_from group is))
      by_test false false from is rest = rest ∙ sym (ap (λ (t : Bool). cond t (group ∷ filter is_in groups) (filter is_in groups)) is)

  -- the groups in the range are among the first that are not before the first values
  pub first_in : (groups seen rest : List (List Value × V)) → IsStrictlySortedBy values_cmp (keys_of groups) → filter is_from groups ≡ seen ++ rest → StopsAt rest → filter is_in groups ≡ filter is_in seen
  first_in groups seen rest ordered split stops =
      sym (through groups) ∙ ap (filter is_in) split ∙ filter-append is_in seen rest ∙ ap (λ (es : List (List Value × V)). filter is_in seen ++ es) (none rest split stops) ∙ append-nil (filter is_in seen)
    where
      none : (rest : List (List Value × V)) → filter is_from groups ≡ seen ++ rest → StopsAt rest → filter is_in rest ≡ []
      none [] split stops = refl
      none (group ∷ rest) split stops =
          let from : is_from group ≡ true = (from_filter is_from groups group (subst (λ (es : List (List Value × V)). Contains es group) (sym split) (Contains-append_right seen (group ∷ rest) group (Contains-here group rest)))).1 in
          ap (λ (t : Bool). cond t (group ∷ filter is_in rest) (filter is_in rest)) stops.0 ∙ none_after group rest from stops (ordered_behind groups seen group rest ordered split)
