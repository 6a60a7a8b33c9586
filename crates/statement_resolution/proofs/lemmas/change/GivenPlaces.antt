-- A row by names and by places is one row, if no two columns share a name.
use Rattle.std.proofs.Common.{◌≡◌, ◌<◌, ◌+◌, ◌∷◌, ◌&&◌, ◌∙◌, ℕ, ℤ, zero, suc, Bool, true, false, List, [], Option, None, Some, cond, bytes_eq, get_or, length, filter, map, refl, sym, ap, arith}
use Rattle.std.specs.Prelude.{◌==◌, slice_get}
use Rattle.std.specs.List.{enumerate_from, find, list_any, zip}
use Rattle.std.specs.Option.{option_and_then, option_map}
use Rattle.std.proofs.lemmas.Bool.{false≢true, or_parts}
use Rattle.std.proofs.lemmas.Bool.Decides.{nat_tests}
use Rattle.std.proofs.lemmas.List.Quantifiers.{position-Some}
use Rattle.std.proofs.lemmas.Option.{none-some, same_Some, slice_get_within, get_or_from_slice_get, slice_get-get_or}
use Rattle.std.proofs.lemmas.Slice.Eq.{bytes_eq-Decides}
use Rattle.period_core.specs.declared.value.Value.{Value}
use Rattle.period_core.specs.declared.value.Value.TheVariants.{Date}
use Rattle.sql_statements.specs.declared.statement.InsertRows.{InsertRows}
use Rattle.catalog_core.proofs.lemmas.lists.AnyTests.{any_same}
use Rattle.catalog_core.proofs.lemmas.create.Built.{place_within}
use Rattle.catalog_core.proofs.lemmas.table.Distinct.{few_named, its_place, only_one, own_name}
use Rattle.statement_resolution.proofs.lemmas.change.GivenValues.{date_column, date_given, date_parts, found_first}
use Rattle.statement_resolution.specs.change.Insertion.{given_names, given_value, gives_faulty_value, has_faulty_value, is_longer, is_of_other_kind, is_too_long, is_faulty, omits_column, value_for}
use Rattle.statement_resolution.specs.change.InsertPlaces.{ArePlaces, gives_faulty_value_at, gives_text, has_faulty_value_at, is_faulty_at, is_faulty_for, row_at, takes_text, value_at}
use Rattle.catalog_core.specs.table.Kinds.{differ, kind_of_column, kind_of_value, same_kind}
use Rattle.catalog_core.specs.table.Naming.{Name, passes}
use Rattle.statement_resolution.specs.change.Resolution.{written_row}
use Rattle.catalog_core.specs.table.TableWords.{def_kind, def_place, has_date_period, has_distinct_names, is_date_column, is_value_column, value_columns, value_names}
use Rattle.statement_resolution.specs.declared.change.insert_values.ValueFault.{ValueFault}
use Rattle.statement_resolution.specs.declared.change.insert_values.ValueFault.TheVariants as fault
use Rattle.catalog_core.specs.declared.table.Column.{Column}
use Rattle.catalog_core.specs.declared.table.ColumnKind.{ColumnKind}
use Rattle.catalog_core.specs.declared.table.ColumnKind.TheVariants as column
use Rattle.catalog_core.specs.declared.table.ValueKind.{ValueKind}
use Rattle.catalog_core.specs.declared.table.ValueKind.TheVariants.{Text}
use Rattle.catalog_core.specs.declared.table.TableDef.{TableDef}
use Rattle.catalog_core.specs.table.Naming.{place_among}
use Rattle.catalog_core.specs.table.Naming.{find_among}

-- ==== the column of a name ====

record IsColumnAt (t : TableDef) (name : Name) (place : ℕ) : Type 0 where
  column : Column
  inside : place < length t.columns
  there : slice_get t.columns place ≡ Some column
  item : column ≡ get_or t.columns place column
  named : name ≡ column.name
  kinds : def_kind t name ≡ Some (kind_of_column column.kind)

is_column_at : (t : TableDef) (name : Name) (place : ℕ) → def_place t name ≡ Some place → IsColumnAt t name place
unfolding place_among def_kind find_among
is_column_at t name place placed =
    let p : Column → Bool = λ y. bytes_eq name y.name in
    let inside : place < length t.columns = place_within p t.columns place placed in
    (elim (slice_get t.columns place) as (λ o. slice_get t.columns place ≡ o → IsColumnAt t name place) [
      | None ↦ (λ none. absurd (slice_inside t.columns place inside none))
      | Some x ↦ (λ there.
          let item : x ≡ get_or t.columns place x = sym (get_or_from_slice_get t.columns place x x there) in
          let first = position-Some p t.columns place x placed in
          let passing : p x ≡ true = ap p item ∙ first.1 in
          let finds : find p t.columns ≡ Some x = found_first p t.columns place x first.0 first.1 first.2 ∙ ap (λ (y : Column). Some y) (sym item) in
          record {
            column = x;
            inside = inside;
            there = there;
            item = item;
            named = (bytes_eq-Decides name x.name).0 passing;
            kinds = ap (option_map (λ (y : Column). kind_of_column y.kind)) finds;
          })
    ]) refl
  where
    slice_inside : {X : Type 0} (xs : List X) (i : ℕ) → i < length xs → slice_get xs i ≡ None → ⊥
    slice_inside [] i here none = absurd (omega (arith, here))
    slice_inside (x ∷ xs) zero here none = none-some x (sym none)
    slice_inside (x ∷ xs) (suc i) here none = slice_inside xs i (omega (arith, here)) none

-- ==== a value is wrong by name if it is wrong by place ====

wrong_kind : (t : TableDef) (name : Name) (place : ℕ) (v : Value) → def_place t name ≡ Some place → is_faulty fault.Kind t (name, v) ≡ is_faulty_at fault.Kind t.columns (place, v)
unfolding is_faulty is_of_other_kind differ is_faulty_at is_faulty_for
wrong_kind t name place v placed =
    let s = is_column_at t name place placed in
    ap (λ (k : Option ValueKind). differ k (Some (kind_of_value v))) s.kinds
    ∙ sym (ap (passes (λ (x : Column). is_faulty_for fault.Kind x.kind v)) s.there)

wrong_length : (t : TableDef) (name : Name) (place : ℕ) (v : Value) → has_distinct_names t ≡ true → def_place t name ≡ Some place
    → is_faulty fault.Length t (name, v) ≡ is_faulty_at fault.Length t.columns (place, v)
unfolding is_faulty is_too_long is_faulty_at is_faulty_for
wrong_length t name place v distinct placed =
    let s = is_column_at t name place placed in
    let x : Column = s.column in
    let p : Column → Bool = λ y. bytes_eq x.name y.name in
    let q : Column → Bool = λ y. is_longer y.kind v in
    let mine : p (get_or t.columns place x) ≡ true = ap p (sym s.item) ∙ own_name x in
    ap (λ (n : Name). list_any (λ (y : Column). bytes_eq n y.name && is_longer y.kind v) t.columns) s.named
    ∙ only_one p q t.columns place x s.inside mine (few_named t place x distinct s.inside s.item)
    ∙ ap q (sym s.item)
    ∙ sym (ap (passes (λ (y : Column). is_faulty_for fault.Length y.kind v)) s.there)

wrong_same : (way : ValueFault) (t : TableDef) (name : Name) (place : ℕ) (v : Value) → has_distinct_names t ≡ true → def_place t name ≡ Some place
    → is_faulty way t (name, v) ≡ is_faulty_at way t.columns (place, v)
wrong_same fault.Kind t name place v distinct placed = wrong_kind t name place v placed
wrong_same fault.Length t name place v distinct placed = wrong_length t name place v distinct placed

-- tests that agree pair by pair
any_zip_same : {A B C : Type 0} (F : A → Option B) (f : A × C → Bool) (g : B × C → Bool)
    → ((a : A) (b : B) (c : C) → F a ≡ Some b → f (a, c) ≡ g (b, c))
    → (ws : List A) (bs : List B) (cs : List C) → map F ws ≡ map (λ (b : B). Some b) bs → list_any f (zip ws cs) ≡ list_any g (zip bs cs)
any_zip_same F f g same [] [] cs placed = refl
any_zip_same F f g same [] (b ∷ bs) cs placed = cc
any_zip_same F f g same (a ∷ ws) [] cs placed = cc
any_zip_same F f g same (a ∷ ws) (b ∷ bs) [] placed = refl
any_zip_same {A} {B} F f g same (a ∷ ws) (b ∷ bs) (c ∷ cs) placed =
    let first : F a ≡ Some b = cc in
    let later : map F ws ≡ map (λ (y : B). Some y) bs = cc in
    rw (same a b c first, any_zip_same F f g same ws bs cs later) refl

find_zip_same : {A B C : Type 0} (F : A → Option B) (f : A × C → Bool) (g : B × C → Bool)
    → ((a : A) (b : B) (c : C) → F a ≡ Some b → f (a, c) ≡ g (b, c))
    → (ws : List A) (bs : List B) (cs : List C) → map F ws ≡ map (λ (b : B). Some b) bs
    → option_map (λ (q : A × C). q.1) (find f (zip ws cs)) ≡ option_map (λ (q : B × C). q.1) (find g (zip bs cs))
find_zip_same F f g same [] [] cs placed = refl
find_zip_same F f g same [] (b ∷ bs) cs placed = cc
find_zip_same F f g same (a ∷ ws) [] cs placed = cc
find_zip_same F f g same (a ∷ ws) (b ∷ bs) [] placed = refl
find_zip_same {A} {B} {C} F f g same (a ∷ ws) (b ∷ bs) (c ∷ cs) placed =
    let first : F a ≡ Some b = cc in
    let later : map F ws ≡ map (λ (y : B). Some y) bs = cc in
    let more = find_zip_same F f g same ws bs cs later in
    rw (same a b c first)
    (elim (g (b, c)) as (λ v. option_map (λ (q : A × C). q.1) (cond v (Some (a, c)) (find f (zip ws cs))) ≡ option_map (λ (q : B × C). q.1) (cond v (Some (b, c)) (find g (zip bs cs)))) [
      | true ↦ refl
      | false ↦ more
    ])

gives_same : (way : ValueFault) (t : TableDef) (list : Option (List Name)) (places : List ℕ) (row : List Value) → has_distinct_names t ≡ true → ArePlaces t list places
    → gives_faulty_value_at way t.columns places row ≡ gives_faulty_value way t list row
unfolding gives_faulty_value_at gives_faulty_value
gives_same way t list places row distinct placed =
    sym (any_zip_same (def_place t) (is_faulty way t) (is_faulty_at way t.columns)
    (λ name place v is_column_at. wrong_same way t name place v distinct is_column_at) (given_names t list) places row placed)

pub wrong_rows : (way : ValueFault) (t : TableDef) (insert : InsertRows) (places : List ℕ) → has_distinct_names t ≡ true → ArePlaces t insert.columns places
    → has_faulty_value_at way t.columns places insert.rows ≡ has_faulty_value way t insert
unfolding has_faulty_value_at has_faulty_value
wrong_rows way t insert places distinct placed =
    any_same (gives_faulty_value_at way t.columns places) (gives_faulty_value way t insert.columns)
    (λ row. gives_same way t insert.columns places row distinct placed) insert.rows

-- ==== a row gives a column the same value ====

same_test : (t : TableDef) (i : ℕ) (x : Column) (name : Name) (place : ℕ) → has_distinct_names t ≡ true → i < length t.columns → x ≡ get_or t.columns i x
    → def_place t name ≡ Some place → bytes_eq x.name name ≡ (place == i)
same_test t i x name place distinct here item placed =
    (elim (bytes_eq x.name name) as (λ b. bytes_eq x.name name ≡ b → b ≡ (place == i)) [
      | true ↦ (λ is.
          let same : x.name ≡ name = (bytes_eq-Decides x.name name).0 is in
          let at : place ≡ i = same_Some place i (sym placed ∙ ap (def_place t) (sym same) ∙ its_place t i x distinct here item) in
          grind (arith, nat_tests))
      | false ↦ (λ is.
          (elim (place == i) as (λ b. (place == i) ≡ b → false ≡ b) [
            | true ↦ (λ e.
                let at : place ≡ i = grind (arith, nat_tests) in
                let s = is_column_at t name place placed in
                let column : s.column ≡ x = s.item ∙ ap (λ (k : ℕ). get_or t.columns k s.column) at ∙ get_or_from_slice_get t.columns i x s.column (slice_get-get_or t.columns i x here ∙ ap (λ (y : Column). Some y) (sym item)) in
                let same : name ≡ x.name = s.named ∙ ap (λ (y : Column). y.name) column in
                absurd (false≢true (sym is ∙ ap (bytes_eq x.name) same ∙ own_name x)))
            | false ↦ (λ e. refl)
          ]) refl)
    ]) refl

pub same_value : (t : TableDef) (list : Option (List Name)) (places : List ℕ) (row : List Value) (i : ℕ) (x : Column) → has_distinct_names t ≡ true → ArePlaces t list places
    → i < length t.columns → x ≡ get_or t.columns i x → given_value t list row x.name ≡ value_at places row i
unfolding given_value value_at
same_value t list places row i x distinct placed here item =
    find_zip_same (def_place t) (λ (given : Name × Value). bytes_eq x.name given.0) (λ (given : ℕ × Value). given.0 == i)
    (λ name place v is_column_at. same_test t i x name place distinct here item is_column_at) (given_names t list) places row placed

pub same_value_for : (t : TableDef) (list : Option (List Name)) (places : List ℕ) (row : List Value) (i : ℕ) (x : Column) → has_distinct_names t ≡ true → ArePlaces t list places
    → slice_get t.columns i ≡ Some x → value_for t list row i ≡ value_at places row i
unfolding value_for
same_value_for t list places row i x distinct placed there =
    ap (option_and_then (λ (y : Column). given_value t list row y.name)) there
    ∙ same_value t list places row i x distinct placed (slice_get_within t.columns i x there) (sym (get_or_from_slice_get t.columns i x x there))

abbrev name_of : ℕ × Column → Name
name_of c = c.1.name

numbered_same : {Y : Type 0} (f : Name → Y) (g : ℕ × Column → Y) (q : ℕ × Column → Bool) (k : ℕ) (xs : List Column)
    → ((j : ℕ) (x : Column) → j < length xs → x ≡ get_or xs j x → f x.name ≡ g (k + j, x))
    → map f (map name_of (filter q (enumerate_from k xs))) ≡ map g (filter q (enumerate_from k xs))
numbered_same f g q k [] same = refl
numbered_same {Y} f g q k (x ∷ xs) same =
    let zeroth : k + 0 ≡ k = omega arith in
    let first : f x.name ≡ g (k, x) = same 0 x (omega arith) refl ∙ ap (λ (n : ℕ). g (n, x)) zeroth in
    let more = numbered_same f g q (k + 1) xs (λ j y here item.
    let next : k + suc j ≡ (k + 1) + j = omega arith in
    same (suc j) y (omega (arith, here)) item ∙ ap (λ (n : ℕ). g (n, y)) next) in
    (elim (q (k, x)) as (λ b. map f (map name_of (cond b ((k, x) ∷ filter q (enumerate_from (k + 1) xs)) (filter q (enumerate_from (k + 1) xs)))) ≡ map g (cond b ((k, x) ∷ filter q (enumerate_from (k + 1) xs)) (filter q (enumerate_from (k + 1) xs)))) [
      | true ↦ rw (first, more) refl
      | false ↦ more
    ])

same_values : (t : TableDef) (list : Option (List Name)) (places : List ℕ) (row : List Value) → has_distinct_names t ≡ true → ArePlaces t list places
    → map (given_value t list row) (value_names t) ≡ map (λ (c : ℕ × Column). value_at places row c.0) (value_columns t)
same_values t list places row distinct placed =
    numbered_same (given_value t list row) (λ (c : ℕ × Column). value_at places row c.0) (is_value_column t) 0 t.columns
    (λ j x here item.
    let at : 0 + j ≡ j = omega arith in
    same_value t list places row j x distinct placed here item ∙ ap (value_at places row) (sym at))

-- the columns of the period exist
pub record PeriodThere (t : TableDef) : Type 0 where
  pub start : Column
  pub end : Column
  pub start_there : slice_get t.columns t.period.start ≡ Some start
  pub end_there : slice_get t.columns t.period.end ≡ Some end

pub same_row : (t : TableDef) (list : Option (List Name)) (places : List ℕ) (row : List Value) → has_distinct_names t ≡ true → ArePlaces t list places → PeriodThere t
    → written_row t list row ≡ row_at t places row
same_row t list places row distinct placed there =
    let values = same_values t list places row distinct placed in
    let start = same_value_for t list places row t.period.start there.start distinct placed there.start_there in
    let end = same_value_for t list places row t.period.end there.end distinct placed there.end_there in
    rw (values, start, end) refl

pub period_there : (t : TableDef) → has_date_period t ≡ true → PeriodThere t
period_there t dated =
    let parts = date_parts t dated in
    let start = date_column t t.period.start parts.start in
    let end = date_column t t.period.end parts.end in
    record { start = start.found; end = end.found; start_there = start.there; end_there = end.there }

-- ==== a row that no condition refuses gives a date for a DATE column ====

pub has_date : (t : TableDef) (list : Option (List Name)) (places : List ℕ) (row : List Value) (place : ℕ) → has_distinct_names t ≡ true → ArePlaces t list places
    → passes (omits_column t) list ≡ false → length row ≡ length (given_names t list) → gives_faulty_value fault.Kind t list row ≡ false → is_date_column t place ≡ true
    → (day : ℤ) × (value_at places row place ≡ Some (Date day))
has_date t list places row place distinct placed names long right dated =
    let given = date_given t list row place names long right dated in
    let at = date_column t place dated in
    (given.0, sym (same_value_for t list places row place at.found distinct placed at.there) ∙ given.1)

-- ==== no text is too long if no column takes texts ====

longer_text : (kind : ColumnKind) (v : Value) → same_kind (kind_of_column kind) Text ≡ false → is_longer kind v ≡ false
unfolding is_longer same_kind kind_of_column
longer_text column.Integer v other = refl
longer_text (column.Varchar n) v other = absurd (false≢true (sym other))
longer_text column.Date v other = refl
longer_text (column.RowStart p) v other = refl
longer_text (column.RowEnd p) v other = refl

short_at : (columns : List Column) (place : ℕ) (v : Value) → takes_text columns place ≡ false → is_faulty_at fault.Length columns (place, v) ≡ false
unfolding takes_text is_faulty_at is_faulty_for
short_at columns place v other =
    (elim (slice_get columns place) as (λ o. passes (λ (x : Column). same_kind (kind_of_column x.kind) Text) o ≡ false → passes (λ (x : Column). is_faulty_for fault.Length x.kind v) o ≡ false) [
      | None ↦ (λ e. refl)
      | Some x ↦ (λ e. longer_text x.kind v e)
    ]) other

short_pairs : (columns : List Column) (places : List ℕ) (row : List Value) → list_any (λ (place : ℕ). takes_text columns place) places ≡ false
    → list_any (λ (given : ℕ × Value). is_faulty_at fault.Length columns given) (zip places row) ≡ false
short_pairs columns [] row none = refl
short_pairs columns (place ∷ places) [] none = refl
short_pairs columns (place ∷ places) (v ∷ row) none =
    let parts = or_parts (takes_text columns place) (list_any (λ (p : ℕ). takes_text columns p) places) none in
    rw (short_at columns place v parts.0, short_pairs columns places row parts.1) refl

short_rows : (columns : List Column) (places : List ℕ) (rows : List (List Value)) → gives_text columns places ≡ false → has_faulty_value_at fault.Length columns places rows ≡ false
unfolding gives_text has_faulty_value_at gives_faulty_value_at
short_rows columns places [] none = refl
short_rows columns places (row ∷ rows) none = rw (short_pairs columns places row none, short_rows columns places rows none) refl

pub no_long_text : (t : TableDef) (insert : InsertRows) (places : List ℕ) → has_distinct_names t ≡ true → ArePlaces t insert.columns places → gives_text t.columns places ≡ false
    → has_faulty_value fault.Length t insert ≡ false
no_long_text t insert places distinct placed none =
    sym (wrong_rows fault.Length t insert places distinct placed) ∙ short_rows t.columns places insert.rows none
