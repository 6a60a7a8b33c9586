-- The names of a table's columns by their places, if no two columns share one: a name has one place.
use Rattle.std.proofs.Common.{◌≡◌, ◌<◌, ◌∷◌, ◌||◌, ◌∙◌, ℕ, zero, suc, Bool, true, false, List, [], Some, arith, ap, bytes_eq, get_or, length, map, nat_lt, refl, sym}
use Rattle.std.specs.Prelude.{◌==◌, slice_get}
use Rattle.std.specs.List.{list_all, list_any}
use Rattle.std.proofs.lemmas.Bool.{and_parts, eqb-true, false≢true, ltb-true, or_from}
use Rattle.std.proofs.lemmas.List.Sums.{length-filter}
use Rattle.std.proofs.lemmas.Option.{get_or_from_slice_get, slice_get_within}
use Rattle.catalog_core.proofs.lemmas.create.Spelling.{name_or, named}
use Rattle.catalog_core.proofs.lemmas.table.Distinct.{few_named, its_place, kept_some, own_name}
use Rattle.catalog_core.specs.create.Places.{has_place}
use Rattle.catalog_core.specs.table.IsDefinition.{are_places}
use Rattle.catalog_core.specs.table.Matches.{is_matching}
use Rattle.catalog_core.specs.table.Naming.{Name, matches_among, some_match_among}
use Rattle.catalog_core.specs.table.TableWords.{def_matches, def_place, has_distinct_names, some_def_match}
use Rattle.catalog_core.specs.declared.table.match_counts.MatchCount.{MatchCount}
use Rattle.catalog_core.specs.declared.table.match_counts.MatchCount.TheVariants.{Zero, Many}
use Rattle.catalog_core.specs.declared.table.Column.{Column}
use Rattle.catalog_core.specs.declared.table.TableDef.{TableDef}

pub any_mapped : {X Y : Type 0} (p : Y → Bool) (f : X → Y) (xs : List X) → list_any p (map f xs) ≡ list_any (λ x. p (f x)) xs
any_mapped p f [] = refl
any_mapped p f (x ∷ xs) = rw (any_mapped p f xs) refl

pub none_where : {X : Type 0} (q p : X → Bool) → ((x : X) → q x ≡ true → p x ≡ false) → (xs : List X) → list_all q xs ≡ true → list_any p xs ≡ false
none_where q p none [] all = refl
none_where q p none (x ∷ xs) all =
    let parts = and_parts (q x) (list_all q xs) all in
    or_from (p x) (list_any p xs) (none x parts.0) (none_where q p none xs parts.1)

-- a place within a list has an element
pub at_place : {X : Type 0} (xs : List X) (i : ℕ) → i < length xs → (x : X) × (slice_get xs i ≡ Some x)
at_place [] i here = absurd (omega (arith, here))
at_place (x ∷ xs) zero here = (x, refl)
at_place (x ∷ xs) (suc i) here = at_place xs i (omega (arith, here))

pub column_at : (t : TableDef) (i : ℕ) → nat_lt i (length t.columns) ≡ true → (x : Column) × (slice_get t.columns i ≡ Some x)
column_at t i here = at_place t.columns i (ltb-true i (length t.columns) here)

abbrev pub column_name : Column → Name
column_name x = x.name

pub named_there : (other : Name) (t : TableDef) (i : ℕ) (x : Column) → slice_get t.columns i ≡ Some x → named other t i ≡ x.name
named_there other t i x there = ap (name_or column_name other) there

-- the column at a place is found by its name
pub placed_there : (t : TableDef) (i : ℕ) (x : Column) → has_distinct_names t ≡ true → slice_get t.columns i ≡ Some x → def_place t x.name ≡ Some i
placed_there t i x distinct there =
    its_place t i x distinct (slice_get_within t.columns i x there) (sym (get_or_from_slice_get t.columns i x x there))

pub place_named : (other : Name) (t : TableDef) (i : ℕ) → has_distinct_names t ≡ true → nat_lt i (length t.columns) ≡ true → def_place t (named other t i) ≡ Some i
place_named other t i distinct here =
    let at = column_at t i here in
    ap (def_place t) (named_there other t i at.0 at.1) ∙ placed_there t i at.0 distinct at.1

-- the name of the column at a place matches one column
pub matched_once : (t : TableDef) (i : ℕ) (x : Column) → has_distinct_names t ≡ true → slice_get t.columns i ≡ Some x → def_matches t x.name ≡ 1
unfolding matches_among
matched_once t i x distinct there =
    let p : Column → Bool = λ y. bytes_eq x.name y.name in
    let here = slice_get_within t.columns i x there in
    let item : x ≡ get_or t.columns i x = sym (get_or_from_slice_get t.columns i x x there) in
    let few = few_named t i x distinct here item in
    let some = kept_some p t.columns i x here (ap p (sym item) ∙ own_name x) in
    let counted = length-filter p t.columns in
    omega (arith, few, some, counted)

matches_one : (w : MatchCount) (n : ℕ) → n ≡ 1 → is_matching w n ≡ false
unfolding is_matching
matches_one Zero n one = rw one refl
matches_one Many n one = rw one refl

pub name_matches : (other : Name) (t : TableDef) (w : MatchCount) (i : ℕ) → has_distinct_names t ≡ true → nat_lt i (length t.columns) ≡ true
    → is_matching w (def_matches t (named other t i)) ≡ false
name_matches other t w i distinct here =
    let at = column_at t i here in
    matches_one w (def_matches t (named other t i)) (ap (def_matches t) (named_there other t i at.0 at.1) ∙ matched_once t i at.0 distinct at.1)

pub none_match : (other : Name) (t : TableDef) (w : MatchCount) (places : List ℕ) → has_distinct_names t ≡ true → are_places (length t.columns) places ≡ true
    → some_def_match t w (map (named other t) places) ≡ false
unfolding some_match_among
none_match other t w places distinct within =
    any_mapped (λ name. is_matching w (def_matches t name)) (named other t) places
    ∙ none_where (λ place. nat_lt place (length t.columns)) (λ place. is_matching w (def_matches t (named other t place)))
    (λ place here. name_matches other t w place distinct here) places within

pub places_named : (other : Name) (t : TableDef) (places : List ℕ) → has_distinct_names t ≡ true → are_places (length t.columns) places ≡ true
    → map (def_place t) (map (named other t) places) ≡ map Some places
places_named other t [] distinct within = refl
places_named other t (place ∷ places) distinct within =
    let parts = and_parts (nat_lt place (length t.columns)) (are_places (length t.columns) places) within in
    rw (place_named other t place distinct parts.0, places_named other t places distinct parts.1) refl

-- the key's places are among the columns
pub key_within : (t : TableDef) (n : ℕ) (places : List ℕ) → are_places n t.key ≡ true → list_all (has_place t.key) places ≡ true → are_places n places ≡ true
unfolding has_place
key_within t n [] keys all = refl
key_within t n (place ∷ places) keys all =
    let parts = and_parts (has_place t.key place) (list_all (has_place t.key) places) all in
    rw (among t.key keys parts.0, key_within t n places keys parts.1) refl
  where
    among : (key : List ℕ) → are_places n key ≡ true → list_any (λ other. other == place) key ≡ true → nat_lt place n ≡ true
    among [] within some = absurd (false≢true some)
    among (k ∷ key) within some =
        let inside = and_parts (nat_lt k n) (are_places n key) within in
        (elim (k == place) as (λ b. (k == place) ≡ b → (b || list_any (λ other. other == place) key) ≡ true → nat_lt place n ≡ true) [
          | true ↦ (λ e s. ap (λ i. nat_lt i n) (sym (eqb-true k place e)) ∙ inside.0)
          | false ↦ (λ e s. among key inside.1 s)
        ]) refl some
