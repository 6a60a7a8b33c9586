-- A row gives the same for a column by its place and by the position of its value.
use Rattle.std.proofs.Common.{◌≡◌, ◌<◌, ◌+◌, ◌∷◌, ◌∙◌, ℕ, ℤ, suc, Bool, true, false, not, List, [], Option, None, Some, cond, get_or, nat_lt, length, map, refl, sym, ap, arith, subst}
use Rattle.std.specs.Prelude.{◌==◌, All, pos, slice_get}
use Rattle.std.specs.List.{find, position, position_or_len, zip}
use Rattle.std.specs.Option.{option_and_then, option_map}
use Rattle.std.proofs.lemmas.Bool.{or_parts}
use Rattle.std.proofs.lemmas.Bool.Decides.{nat_tests}
use Rattle.std.proofs.lemmas.List.{length-map}
use Rattle.std.proofs.lemmas.List.Elements.{All-cons, All-nil}
use Rattle.std.proofs.lemmas.List.Quantifiers.{position-Some}
use Rattle.std.proofs.lemmas.Option.{get_or_from_slice_get, slice_get_within}
use Rattle.period_core.specs.declared.value.Value.{Value}
use Rattle.period_core.specs.declared.value.Value.TheVariants.{Date, Int}
use Rattle.sql_statements.specs.declared.statement.InsertRows.{InsertRows}
use Rattle.statement_resolution.proofs.lemmas.change.GivenPlaces.{same_value}
use Rattle.statement_resolution.proofs.lemmas.change.GivenValues.{given_there}
use Rattle.statement_resolution.specs.change.Insertion.{given_names, has_other_count, has_row_of_other_length, omits_column}
use Rattle.statement_resolution.specs.change.InsertPlaces.{ArePlaces, ArePositions, HasDate, HasPosition, HasPositions, parts_at, position_for, row_at, value_at}
use Rattle.catalog_core.specs.table.Naming.{Name, passes}
use Rattle.catalog_core.specs.table.TableWords.{def_place, has_distinct_names, value_columns}
use Rattle.statement_resolution.specs.declared.change.row_positions.RowPositions.{RowPositions}
use Rattle.catalog_core.specs.declared.table.Column.{Column}
use Rattle.catalog_core.specs.declared.table.TableDef.{TableDef}

-- ==== a place's position ====

later_first : (n count : ℕ) → cond (nat_lt (1 + n) (suc count)) (Some (1 + n)) None ≡ option_map (λ (k : ℕ). suc k) (cond (nat_lt n count) (Some n) None)
later_first n count =
    let next : 1 + n ≡ suc n = omega arith in
    (elim (nat_lt n count) as (λ b. nat_lt n count ≡ b → cond (nat_lt (1 + n) (suc count)) (Some (1 + n)) None ≡ option_map (λ (k : ℕ). suc k) (cond b (Some n) None)) [
      | true ↦ (λ e. let less : nat_lt (1 + n) (suc count) ≡ true = grind (arith, nat_tests) in rw (less, next) refl)
      | false ↦ (λ e. let past : nat_lt (1 + n) (suc count) ≡ false = grind (arith, nat_tests) in rw past refl)
    ]) refl

-- the first that passes is the head, or the first of the rest
position_cons : {X : Type 0} (p : X → Bool) (x : X) (xs : List X) → position p (x ∷ xs) ≡ cond (p x) (Some 0) (option_map (λ (k : ℕ). suc k) (position p xs))
position_cons p x xs =
    let n : ℕ = position_or_len p xs in
    elim (p x) as (λ b. cond (nat_lt (cond (not b) (1 + n) 0) (suc (length xs))) (Some (cond (not b) (1 + n) 0)) None ≡ cond b (Some 0) (option_map (λ (k : ℕ). suc k) (position p xs))) [
      | true ↦ (let some : nat_lt 0 (suc (length xs)) ≡ true = grind (arith, nat_tests) in rw some refl)
      | false ↦ later_first n (length xs)
    ]

nothing_given : (o : Option ℕ) → None ≡ option_and_then (slice_get {X = Value} []) o
nothing_given None = refl
nothing_given (Some k) = refl

later_given : (v : Value) (vs : List Value) (o : Option ℕ) → option_and_then (slice_get vs) o ≡ option_and_then (slice_get (v ∷ vs)) (option_map (λ (k : ℕ). suc k) o)
later_given v vs None = refl
later_given v vs (Some k) = refl

pub value_by_position : (places : List ℕ) (row : List Value) (place : ℕ) → value_at places row place ≡ option_and_then (slice_get row) (position_for places place)
unfolding value_at position_for
value_by_position [] row place = refl
value_by_position (given ∷ places) [] place = nothing_given (position (λ (k : ℕ). k == place) (given ∷ places))
value_by_position (given ∷ places) (v ∷ row) place =
    let p : ℕ → Bool = λ k. k == place in
    let rest = find (λ (g : ℕ × Value). p g.0) (zip places row) in
    let later : Option ℕ = option_map (λ (k : ℕ). suc k) (position p places) in
    let value : ℕ × Value → Value = λ g. g.1 in
    rw (position_cons p given places)
    (elim (p given) as (λ b. option_map value (cond b (Some (given, v)) rest) ≡ option_and_then (slice_get (v ∷ row)) (cond b (Some 0) later)) [
      | true ↦ refl
      | false ↦ value_by_position places row place ∙ later_given v row (position p places)
    ])

-- ==== each column has a value ====

no_position : (places : List ℕ) (row : List Value) (place : ℕ) → position_for places place ≡ None → value_at places row place ≡ None
no_position places row place none = value_by_position places row place ∙ ap (option_and_then (slice_get row)) none

pub has_positions : (t : TableDef) (list : Option (List Name)) (places : List ℕ) → has_distinct_names t ≡ true → ArePlaces t list places → passes (omits_column t) list ≡ false
    → HasPositions t places
has_positions t list places distinct placed names i x there plain =
    let here : i < length t.columns = slice_get_within t.columns i x there in
    let item : x ≡ get_or t.columns i x = sym (get_or_from_slice_get t.columns i x x there) in
    let row : List Value = map (λ (n : Name). Int (pos 0)) (given_names t list) in
    let long : length row ≡ length (given_names t list) = length-map (given_names t list) (λ (n : Name). Int (pos 0)) in
    (elim (position_for places i) as (λ o. position_for places i ≡ o → HasPosition places i) [
      | None ↦ (λ none. absurd (given_there t list row i x here item plain names long (same_value t list places row i x distinct placed here item ∙ no_position places row i none)))
      | Some k ↦ (λ some. (k, some))
    ]) refl

-- ==== a row by places and by positions is one row ====

by_positions : {X Y : Type 0} (f : X → Option ℕ) (g : ℕ → Option Y) (h : X → Option Y) → ((x : X) → h x ≡ option_and_then g (f x))
    → (xs : List X) (ks : List ℕ) → map f xs ≡ map (λ (k : ℕ). Some k) ks → map h xs ≡ map g ks
by_positions f g h same [] [] placed = refl
by_positions f g h same [] (k ∷ ks) placed = cc
by_positions f g h same (x ∷ xs) [] placed = cc
by_positions f g h same (x ∷ xs) (k ∷ ks) placed =
    let first : f x ≡ Some k = cc in
    let later : map f xs ≡ map (λ (k : ℕ). Some k) ks = cc in
    rw (same x ∙ ap (option_and_then g) first, by_positions f g h same xs ks later) refl

pub value_there : (places : List ℕ) (row : List Value) (place k : ℕ) → position_for places place ≡ Some k → value_at places row place ≡ slice_get row k
value_there places row place k at = value_by_position places row place ∙ ap (option_and_then (slice_get row)) at

pub same_parts : (t : TableDef) (places : List ℕ) (at : RowPositions) (row : List Value) → ArePositions t places at → row_at t places row ≡ parts_at at row
same_parts t places at row placed =
    let values = by_positions (λ (c : ℕ × Column). position_for places c.0) (λ (k : ℕ). slice_get row k) (λ (c : ℕ × Column). value_at places row c.0) (λ c. value_by_position places row c.0) (value_columns t) at.values.items placed.values in
    let start = value_there places row t.period.start at.start placed.start in
    let end = value_there places row t.period.end at.end placed.end in
    rw (values, start, end) refl

-- ==== each position is one of a row's ====

position_inside : (places : List ℕ) (place k : ℕ) → position_for places place ≡ Some k → k < length places
unfolding position_for
position_inside places place k at = (position-Some (λ (given : ℕ). given == place) places k 0 at).0

all_inside : {X : Type 0} (f : X → Option ℕ) (n : ℕ) → ((x : X) (k : ℕ) → f x ≡ Some k → k < n)
    → (xs : List X) (ks : List ℕ) → map f xs ≡ map (λ (k : ℕ). Some k) ks → All (λ k. k < n) ks
all_inside f n inside [] [] placed = All-nil (λ k. k < n)
all_inside f n inside [] (k ∷ ks) placed = cc
all_inside f n inside (x ∷ xs) [] placed = cc
all_inside f n inside (x ∷ xs) (k ∷ ks) placed =
    let first : f x ≡ Some k = cc in
    let later : map f xs ≡ map (λ (k : ℕ). Some k) ks = cc in
    All-cons (λ k. k < n) k ks (inside x k first) (all_inside f n inside xs ks later)

places_count : (t : TableDef) (list : Option (List Name)) (places : List ℕ) → ArePlaces t list places → length places ≡ length (given_names t list)
places_count t list places placed =
    sym (length-map places (λ (k : ℕ). Some k)) ∙ sym (ap length placed) ∙ length-map (given_names t list) (def_place t)

pub positions_inside : (t : TableDef) (list : Option (List Name)) (places : List ℕ) (at : RowPositions) (row : List Value) → ArePlaces t list places → ArePositions t places at
    → length row ≡ length (given_names t list) → All (λ k. k < length row) at.values.items
positions_inside t list places at row placed given long =
    let count : length places ≡ length row = places_count t list places placed ∙ sym long in
    all_inside (λ (c : ℕ × Column). position_for places c.0) (length row)
    (λ c k there. subst (λ (n : ℕ). k < n) count (position_inside places c.0 k there)) (value_columns t) at.values.items given.values

-- ==== a date, by its position ====

pub has_date_there : (places : List ℕ) (row : List Value) (place k : ℕ) → position_for places place ≡ Some k → (day : ℤ) × (value_at places row place ≡ Some (Date day)) → HasDate row k
has_date_there places row place k at given = (given.0, sym (value_there places row place k at) ∙ given.1)

-- ==== what the lengths of the rows say of the list ====

pub names_given : (t : TableDef) (insert : InsertRows) → has_other_count t insert ≡ false → passes (omits_column t) insert.columns ≡ false
unfolding has_other_count
names_given t insert counted =
    (or_parts (passes (omits_column t) insert.columns) (has_row_of_other_length (length (given_names t insert.columns)) insert.rows) counted).0
