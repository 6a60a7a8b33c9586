-- Keys in a range, by the values of a row at the positions of the key.
use Rattle.std.proofs.Common.{◌≡◌, ◌&&◌, ◌++◌, ◌∷◌, [], ◌∙◌, ◌<◌, ◌≤◌, ◌+◌, ℕ, Bool, true, List, None, Option, Some, length, take, take_all, drop, get_or, refl, sym, ap, ap₂, arith, subst}
use Rattle.std.specs.Vec.{vec_len}
use Rattle.std.specs.List.{cons_option, filter_map, slice_get}
use Rattle.std.proofs.lemmas.Bool.{and_parts, false≢true}
use Rattle.std.proofs.lemmas.List.{drop_more, nil_from_length, take-append-drop, take-take, take_at, take_more}
use Rattle.std.proofs.lemmas.Option.{get_or_from_slice_get, slice_get_within}
use Rattle.std.proofs.lemmas.List.Elements.{filter_map-append}
use Rattle.period_core.specs.OrderLaws.{values_eq}
use Rattle.period_core.specs.declared.value.Value.{Value}
use Rattle.period_keys.specs.declared.key_range.KeyRange.{KeyRange}
use Rattle.period_keys.specs.declared.key_range.Limit.{Limit}
use Rattle.period_keys.specs.declared.key_range.Limit.TheVariants.{Included, Excluded, Unbounded}
use Rattle.period_keys.specs.Keys.{values_at}
use Rattle.period_keys.specs.Ranges.{begins_with, is_above, is_below, is_in_range}

-- ---- rows of which something is known of the values at the positions of the key

-- the values at the first positions and at one more
pub key_more : (positions : List ℕ) (i : ℕ) (values key new : List Value) (value : Value) → i < length positions → values_at (take i positions) values ≡ key → slice_get values (get_or positions i 0) ≡ Some value → new ≡ key ++ value ∷ []
    → values_at (take (i + 1) positions) values ≡ new
key_more positions i values key new value below first is added =
    let next : List ℕ = get_or positions i 0 ∷ [] in
    ap (filter_map (slice_get values)) (take_more positions i 0 below)
    ∙ filter_map-append (slice_get values) (take i positions) next
    ∙ ap (λ (vs : List Value). vs ++ filter_map (slice_get values) next) first
    ∙ ap (λ (o : Option Value). key ++ cons_option o []) is
    ∙ sym added

-- a key begins with its values at the first positions
begins_by_first : (positions : List ℕ) (leading values : List Value) → values_at (take (length leading) positions) values ≡ leading → values_at positions values ≡ leading ++ values_at (drop (length leading) positions) values
begins_by_first positions leading values first =
    let n = length leading in
    ap (filter_map (slice_get values)) (sym (take-append-drop n positions))
    ∙ filter_map-append (slice_get values) (take n positions) (drop n positions)
    ∙ ap (λ (vs : List Value). vs ++ values_at (drop n positions) values) first

pub begins : (positions : List ℕ) (leading values : List Value) → values_at (take (length leading) positions) values ≡ leading → begins_with leading (values_at positions values) ≡ true
begins positions leading values first =
    let n = length leading in
    (values_eq leading (take n (values_at positions values))).1
    (sym (ap (take n) (begins_by_first positions leading values first) ∙ take_at leading (values_at (drop n positions) values) n refl))

get_here : (xs : List Value) (v : Value) (ys : List Value) → slice_get (xs ++ v ∷ ys) (length xs) ≡ Some v
get_here [] v ys = refl
get_here (x ∷ xs) v ys = get_here xs v ys

-- the value after the leading ones is at the next position
next_value : (positions : List ℕ) (leading values : List Value) (next : ℕ) (v : Value) → values_at (take (length leading) positions) values ≡ leading → slice_get positions (length leading) ≡ Some next → slice_get values next ≡ Some v
    → slice_get (values_at positions values) (length leading) ≡ Some v
next_value positions leading values next v first at is =
    let n = length leading in
    let later : List ℕ = drop (n + 1) positions in
    let split : drop n positions ≡ next ∷ later = drop_more positions n 0 (slice_get_within positions n next at) ∙ ap (λ (p : ℕ). p ∷ later) (get_or_from_slice_get positions n next 0 at) in
    let there : values_at (drop n positions) values ≡ v ∷ values_at later values = ap (λ (ps : List ℕ). values_at ps values) split ∙ ap (λ (o : Option Value). cons_option o (values_at later values)) is in
    ap (λ (vs : List Value). slice_get vs n) (begins_by_first positions leading values first ∙ ap (λ (vs : List Value). leading ++ vs) there) ∙ get_here leading v (values_at later values)

kept_above : (lower : Limit) (o p : Option Value) → ((v : Value) → o ≡ Some v → p ≡ Some v) → is_above lower o ≡ true → is_above lower p ≡ true
kept_above (Included l) None p same h = absurd (false≢true h)
kept_above (Included l) (Some v) p same h = ap (is_above (Included l)) (same v refl) ∙ h
kept_above (Excluded l) None p same h = absurd (false≢true h)
kept_above (Excluded l) (Some v) p same h = ap (is_above (Excluded l)) (same v refl) ∙ h
kept_above Unbounded o p same h = refl

kept_below : (upper : Limit) (o p : Option Value) → ((v : Value) → o ≡ Some v → p ≡ Some v) → is_below upper o ≡ true → is_below upper p ≡ true
kept_below (Included l) None p same h = absurd (false≢true h)
kept_below (Included l) (Some v) p same h = ap (is_below (Included l)) (same v refl) ∙ h
kept_below (Excluded l) None p same h = absurd (false≢true h)
kept_below (Excluded l) (Some v) p same h = ap (is_below (Excluded l)) (same v refl) ∙ h
kept_below Unbounded o p same h = refl

-- a key that begins with the leading values, and whose value at the next position is within the limits, is in the range
pub in_range : (range : KeyRange) (positions : List ℕ) (values : List Value) (next : ℕ) → values_at (take (length range.leading.items) positions) values ≡ range.leading.items → slice_get positions (length range.leading.items) ≡ Some next
    → is_above range.lower (slice_get values next) ≡ true → is_below range.upper (slice_get values next) ≡ true → is_in_range range (values_at positions values) ≡ true
in_range range positions values next first at above below =
    let leading = range.leading.items in
    let moved : (v : Value) → slice_get values next ≡ Some v → slice_get (values_at positions values) (length leading) ≡ Some v = λ v is. next_value positions leading values next v first at is in
    let own = slice_get (values_at positions values) (length leading) in
    ap₂ (λ (a b : Bool). a && b) (begins positions leading values first)
    (ap₂ (λ (a b : Bool). a && b) (kept_above range.lower (slice_get values next) own moved above) (kept_below range.upper (slice_get values next) own moved below))

-- a key is in a range without limits if it begins with the range's leading values
pub led_in_range : (range : KeyRange) (positions : List ℕ) (values : List Value) → values_at (take (length range.leading.items) positions) values ≡ range.leading.items → range.lower ≡ Unbounded → range.upper ≡ Unbounded → is_in_range range (values_at positions values) ≡ true
led_in_range range positions values first lower upper =
    let own = slice_get (values_at positions values) (length range.leading.items) in
    ap₂ (λ (a b : Bool). a && b) (begins positions range.leading.items values first)
    (ap₂ (λ (a b : Bool). a && b) (ap (λ (l : Limit). is_above l own) lower) (ap (λ (l : Limit). is_below l own) upper))

-- ---- ranges of one key

pub at_most : (positions : List ℕ) (values : List Value) → length (values_at positions values) ≤ length positions
at_most [] values = omega arith
at_most (p ∷ positions) values = by_value (slice_get values p) (at_most positions values)
  where
    by_value : (o : Option Value) → length (values_at positions values) ≤ length positions → length (cons_option o (values_at positions values)) ≤ length (p ∷ positions)
    by_value None h = omega (arith, h)
    by_value (Some v) h = omega (arith, h)

-- a key with no more values than the leading ones is the leading values
pub whole_key : (range : KeyRange) (positions : List ℕ) (values : List Value) → length positions ≤ length range.leading.items → is_in_range range (values_at positions values) ≡ true → values_at positions values ≡ range.leading.items
whole_key range positions values whole is =
    let key = values_at positions values in
    let n = length range.leading.items in
    let next = slice_get key n in
    let begins_so = (and_parts (begins_with range.leading.items key) (is_above range.lower next && is_below range.upper next) is).0 in
    let leads : range.leading.items ≡ take n key = (values_eq range.leading.items (take n key)).0 begins_so in
    sym (leads ∙ take_all n key (omega (arith, whole, at_most positions values)))

-- a key that has a value at each of its first positions has the leading values there
pub fixed_values : (range : KeyRange) (positions : List ℕ) (values : List Value) (n : ℕ) → n ≤ length range.leading.items → is_in_range range (values_at positions values) ≡ true → length (values_at (take n positions) values) ≡ n
    → values_at (take n positions) values ≡ take n range.leading.items
fixed_values range positions values n few is count =
    let key = values_at positions values in
    let m = length range.leading.items in
    let first = values_at (take n positions) values in
    let rest = values_at (drop n positions) values in
    let next = slice_get key m in
    let begins_so = (and_parts (begins_with range.leading.items key) (is_above range.lower next && is_below range.upper next) is).0 in
    let leads : range.leading.items ≡ take m key = (values_eq range.leading.items (take m key)).0 begins_so in
    let split : key ≡ first ++ rest = ap (filter_map (slice_get values)) (sym (take-append-drop n positions)) ∙ filter_map-append (slice_get values) (take n positions) (drop n positions) in
    sym (ap (take n) leads ∙ take-take n m key few ∙ ap (take n) split ∙ take_at first rest n count)

-- ---- the range of all keys

pub none_above : (lower : Limit) → is_above lower None ≡ true → lower ≡ Unbounded
none_above (Included l) h = absurd (false≢true h)
none_above (Excluded l) h = absurd (false≢true h)
none_above Unbounded h = refl

pub none_below : (upper : Limit) → is_below upper None ≡ true → upper ≡ Unbounded
none_below (Included l) h = absurd (false≢true h)
none_below (Excluded l) h = absurd (false≢true h)
none_below Unbounded h = refl

take_none : (key : List Value) → [] ≡ take 0 key
take_none [] = refl
take_none (v ∷ key) = refl

-- a range that is made of nothing
abbrev pub IsOfNothing : KeyRange → Type 0
IsOfNothing range = (range.leading.items ≡ []) × (range.lower ≡ Unbounded) × (range.upper ≡ Unbounded)

pub nothing_has_all : (range : KeyRange) → IsOfNothing range → (key : List Value) → is_in_range range key ≡ true
nothing_has_all range nothing key =
    let leading = range.leading.items in
    let own = slice_get key (length leading) in
    ap₂ (λ (a b : Bool). a && b) ((values_eq leading (take (length leading) key)).1 (subst (λ (p : List Value). p ≡ take (length p) key) (sym nothing.0) (take_none key)))
    (ap₂ (λ (a b : Bool). a && b) (ap (λ (l : Limit). is_above l own) nothing.1) (ap (λ (l : Limit). is_below l own) nothing.2))

-- no leading values, by their number as the list keeps it
pub none_counted : (range : KeyRange) → vec_len range.leading ≡ 0 → range.leading.items ≡ []
none_counted range is = nil_from_length range.leading.items (let ok = range.leading.ok.0 in omega (arith, is, ok))

-- one that has the key of no values is made of nothing
pub all_of_nothing : (range : KeyRange) → is_in_range range [] ≡ true → IsOfNothing range
all_of_nothing range is =
    let leading = range.leading.items in
    let n = length leading in
    let both = and_parts (begins_with leading []) (is_above range.lower None && is_below range.upper None) is in
    let limits = and_parts (is_above range.lower None) (is_below range.upper None) both.1 in
    ((values_eq leading (take n [])).0 both.0 ∙ take_all n [] (omega arith), none_above range.lower limits.0, none_below range.upper limits.1)
