-- The places of a table's value columns, in a loop by place.
use Rattle.std.proofs.Common.{◌≡◌, ◌<◌, ◌≤◌, ◌+◌, ◌++◌, ◌∷◌, ◌∙◌, ℕ, Bool, true, false, List, [], Option, Some, None, eqb, get_or, take, drop, length, length-append, map, filter, nat_lt, refl, sym, ap, arith}
use Rattle.std.specs.Prelude.{◌==◌}
use Rattle.std.specs.List.{enumerate_from, filter_map, position, position_or_len, slice_get}
use Rattle.std.proofs.Math.Seq.{take-append_seam}
use Rattle.std.proofs.lemmas.Bool.Decides.{nat_tests}
use Rattle.std.proofs.lemmas.List.{append-nil, length-map, map-append, take-append-drop, take_more}
use Rattle.std.proofs.lemmas.List.Elements.{filter-append, filter_map-append}
use Rattle.std.proofs.lemmas.List.Folds.{position_or_len_push}
use Rattle.std.proofs.lemmas.Option.{slice_get_within, get_or_from_slice_get}
use Rattle.catalog_core.proofs.lemmas.lists.Kept.{kept_by}
use Rattle.catalog_core.proofs.lemmas.lists.Places.{place_by}
use Rattle.catalog_core.proofs.lemmas.table.Numbered.{kept_before, kept_with, kept_without, kept_all, numbered_at, numbered_within}
use Rattle.catalog_core.specs.table.TableWords.{is_value_column}
use Rattle.catalog_core.specs.declared.table.Column.{Column}
use Rattle.catalog_core.specs.declared.table.TableDef.{TableDef}
use Rattle.period_keys.specs.Positions.{value_places}

-- the places of the value columns among the first i declared ones
abbrev pub places_before : TableDef → List Column → ℕ → List ℕ
places_before t columns i = kept_before (is_value_column t) (λ (c : ℕ × Column). c.0) columns i

pub places_with : (t : TableDef) (xs : List Column) (i : ℕ) (x : Column) → i < length xs → x ≡ get_or xs i x → is_value_column t (i, x) ≡ true
    → places_before t xs (i + 1) ≡ places_before t xs i ++ i ∷ []
places_with t xs i x here item value = kept_with (is_value_column t) (λ (c : ℕ × Column). c.0) xs i x here item value

pub places_without : (t : TableDef) (xs : List Column) (i : ℕ) (x : Column) → i < length xs → x ≡ get_or xs i x → is_value_column t (i, x) ≡ false
    → places_before t xs (i + 1) ≡ places_before t xs i
places_without t xs i x here item other = kept_without (is_value_column t) (λ (c : ℕ × Column). c.0) xs i x here item other

-- the places before are the first of all
places_first : (t : TableDef) (xs : List Column) (i : ℕ) (all : List ℕ)
    → all ≡ map (λ (c : ℕ × Column). c.0) (filter (is_value_column t) (enumerate_from 0 xs))
    → take (length (places_before t xs i)) all ≡ places_before t xs i
places_first t xs i all whole =
    let p : ℕ × Column → Bool = is_value_column t in
    let f : ℕ × Column → ℕ = λ c. c.0 in
    let cs : List (ℕ × Column) = enumerate_from 0 xs in
    let parts : all ≡ places_before t xs i ++ map f (filter p (drop i cs)) =
    whole ∙ ap (λ (ds : List (ℕ × Column)). map f (filter p ds)) (sym (take-append-drop i cs))
    ∙ ap (map f) (filter-append p (take i cs) (drop i cs))
    ∙ map-append f (filter p (take i cs)) (filter p (drop i cs)) in
    ap (take (length (places_before t xs i))) parts ∙ take-append_seam (places_before t xs i) (map f (filter p (drop i cs)))

-- the value column in hand, by its position among all
pub position_found : (t : TableDef) (place : ℕ) (xs : List Column) (i : ℕ) (x : Column) (n : ℕ) → xs ≡ t.columns → i < length xs → x ≡ get_or xs i x
    → length (places_before t xs i) ≡ n → position_or_len (λ other. place == other) (places_before t xs i) ≡ n
    → is_value_column t (i, x) ≡ true → place == i ≡ true
    → Some n ≡ position (λ other. place == other) (value_places t)
position_found t place xs i x n same here item count before value at =
    let p : ℕ × Column → Bool = is_value_column t in
    let f : ℕ × Column → ℕ = λ c. c.0 in
    let test : ℕ → Bool = λ other. place == other in
    let cs : List (ℕ × Column) = enumerate_from 0 xs in
    let whole : value_places t ≡ map f (filter p cs) = ap (λ (ys : List Column). map f (filter p (enumerate_from 0 ys))) (sym same) in
    let counted : length (filter p (take i cs)) ≡ n = sym (length-map (filter p (take i cs)) f) ∙ count in
    let found : slice_get (map f (filter p cs)) n ≡ Some i =
    kept_by p f cs i (i, x) n (numbered_within xs i here) (sym (numbered_at xs i x here item)) value counted in
    let there : slice_get (value_places t) n ≡ Some i = ap (λ (ns : List ℕ). slice_get ns n) whole ∙ found in
    let first : position_or_len test (take n (value_places t)) ≡ n =
    ap (λ (k : ℕ). position_or_len test (take k (value_places t))) (sym count)
    ∙ ap (position_or_len test) (places_first t xs i (value_places t) whole) ∙ before in
    place_by test (value_places t) (value_places t) n i refl (slice_get_within (value_places t) n i there) first
    (sym (get_or_from_slice_get (value_places t) n i i there)) at

-- the position of a place among more places, if the next is another
pub position_more : (place : ℕ) (places : List ℕ) (x n : ℕ) → length places ≡ n → position_or_len (λ other. place == other) places ≡ n → place == x ≡ false
    → (length (places ++ x ∷ []) ≡ n + 1) × (position_or_len (λ other. place == other) (places ++ x ∷ []) ≡ n + 1)
position_more place places x n count before other =
    let test : ℕ → Bool = λ other. place == other in
    let longer : length (places ++ x ∷ []) ≡ n + 1 = simp length-append (omega arith) in
    let here : position_or_len test places ≡ length places = before ∙ sym count in
    let same : eqb (length places) (length places) ≡ true = grind (arith, nat_tests) in
    let later : length places + 1 ≡ n + 1 = omega arith in
    (longer, rw (position_or_len_push test places x, here, same, other) later)

-- no value column is at the place
pub position_end : (t : TableDef) (place : ℕ) (xs : List Column) (i n : ℕ) → xs ≡ t.columns → length xs ≤ i
    → length (places_before t xs i) ≡ n → position_or_len (λ other. place == other) (places_before t xs i) ≡ n
    → None ≡ position (λ other. place == other) (value_places t)
position_end t place xs i n same done count before =
    let p : ℕ × Column → Bool = is_value_column t in
    let f : ℕ × Column → ℕ = λ c. c.0 in
    let test : ℕ → Bool = λ other. place == other in
    let whole : places_before t xs i ≡ value_places t =
    kept_all p f xs i done ∙ ap (λ (ys : List Column). map f (filter p (enumerate_from 0 ys))) same in
    let at : position_or_len test (value_places t) ≡ n = ap (position_or_len test) (sym whole) ∙ before in
    let all : length (value_places t) ≡ n = ap length (sym whole) ∙ count in
    let past : nat_lt (position_or_len test (value_places t)) (length (value_places t)) ≡ false = grind arith in
    rw past refl

-- the positions of places, with one more place that has one or none
pub position_with : (f : ℕ → Option ℕ) (places : List ℕ) (i n : ℕ) → i < length places → f (get_or places i 0) ≡ Some n
    → filter_map f (take (i + 1) places) ≡ filter_map f (take i places) ++ n ∷ []
position_with f places i n here is =
    ap (filter_map f) (take_more places i 0 here) ∙ filter_map-append f (take i places) (get_or places i 0 ∷ [])
    ∙ ap (λ ns. filter_map f (take i places) ++ ns) (one (get_or places i 0) is)
  where
    one : (x : ℕ) → f x ≡ Some n → filter_map f (x ∷ []) ≡ n ∷ []
    one x e = rw e refl

pub position_without : (f : ℕ → Option ℕ) (places : List ℕ) (i : ℕ) → i < length places → f (get_or places i 0) ≡ None
    → filter_map f (take (i + 1) places) ≡ filter_map f (take i places)
position_without f places i here is =
    ap (filter_map f) (take_more places i 0 here) ∙ filter_map-append f (take i places) (get_or places i 0 ∷ [])
    ∙ ap (λ ns. filter_map f (take i places) ++ ns) (one (get_or places i 0) is) ∙ append-nil (filter_map f (take i places))
  where
    one : (x : ℕ) → f x ≡ None → filter_map f (x ∷ []) ≡ []
    one x e = rw e refl

-- equal places pass the test of places
pub same_place : (place i : ℕ) → place ≡ i → place == i ≡ true
same_place place i e = grind (arith, nat_tests)

pub other_place : (place i : ℕ) → (place ≡ i → ⊥) → place == i ≡ false
other_place place i other = grind (arith, nat_tests)
