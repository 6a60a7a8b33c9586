-- A value that no condition of a change refuses is one of its column.
use Rattle.std.proofs.Common.{◌≡◌, ◌<◌, ◌+◌, ◌++◌, ◌∷◌, ◌&&◌, ◌∙◌, ℕ, zero, suc, Bool, true, false, not, List, [], Option, None, Some, append_assoc, arith, ap, bytes_eq, cond, fold, get_or, length, length-append, map, refl, set, subst, sym}
use Rattle.std.specs.Prelude.{slice_get}
use Rattle.std.specs.List.{AllByRecursion, enumerate_from, find, list_any}
use Rattle.std.specs.Option.{option_map}
use Rattle.std.proofs.lemmas.Bool.{and_parts, false≢true, or_parts}
use Rattle.std.proofs.lemmas.Bool.Decides.{nat_tests}
use Rattle.std.proofs.lemmas.List.Quantifiers.{position-Some}
use Rattle.std.proofs.lemmas.Option.{get_or_from_slice_get, none-some, same_Some, slice_get_within}
use Rattle.std.proofs.lemmas.Slice.Eq.{bytes_eq-Decides}
use Rattle.sqlite_trees.proofs.ListLemmas.{all-filter, all-slice_get}
use Rattle.period_core.specs.declared.value.Value.{Value}
use Rattle.period_core.specs.declared.value.Value.TheVariants as value
use Rattle.sql_statements.specs.declared.statement.Assignment as written
use Rattle.statement_resolution.proofs.lemmas.change.GivenValues.{found_first}
use Rattle.catalog_core.proofs.lemmas.judged.Sound.{fails_at}
use Rattle.catalog_core.proofs.lemmas.table.Distinct.{its_place}
use Rattle.statement_resolution.specs.Faults.{no_faults}
use Rattle.statement_resolution.specs.TableFaults.{set_faults}
use Rattle.statement_resolution.specs.Positions.{resolved_assignment}
use Rattle.statement_resolution.specs.change.Insertion.{given_value, given_values, gives_faulty_value, is_longer, is_of_other_kind, is_too_long, is_faulty}
use Rattle.catalog_core.specs.query.Selection.{value_position}
use Rattle.catalog_core.specs.table.Kinds.{differ, kind_of_column, kind_of_value, same_kind}
use Rattle.catalog_core.specs.table.Naming.{Name, find_among, place_among}
use Rattle.catalog_core.specs.table.TableWords.{def_kind, has_distinct_names, is_value_column, value_columns, value_names}
use Rattle.catalog_core.specs.declared.change.Assignment.{Assignment}
use Rattle.statement_resolution.specs.declared.change.insert_values.ValueFault.TheVariants as fault
use Rattle.statement_resolution.specs.declared.faults.Faults.{Faults}
use Rattle.catalog_core.specs.declared.table.Column.{Column}
use Rattle.catalog_core.specs.declared.table.ColumnKind.{ColumnKind}
use Rattle.catalog_core.specs.declared.table.ColumnKind.TheVariants as kind
use Rattle.catalog_core.specs.declared.table.TableDef.{TableDef}
use Rattle.version_store.specs.RowValues.{are_of_columns, is_of_column}

-- ---- by kind and length

of_column : (k : ColumnKind) (v : Value) → same_kind (kind_of_column k) (kind_of_value v) ≡ true → is_longer k v ≡ false → is_of_column k v ≡ true
unfolding same_kind kind_of_column is_longer
of_column kind.Integer (value.Int n) same short = refl
of_column kind.Integer (value.Text t) same short = absurd (false≢true same)
of_column kind.Integer (value.Date d) same short = absurd (false≢true same)
of_column (kind.Varchar most) (value.Int n) same short = absurd (false≢true same)
of_column (kind.Varchar most) (value.Text t) same short = grind (arith, nat_tests, short)
of_column (kind.Varchar most) (value.Date d) same short = absurd (false≢true same)
of_column kind.Date (value.Int n) same short = absurd (false≢true same)
of_column kind.Date (value.Text t) same short = absurd (false≢true same)
of_column kind.Date (value.Date d) same short = refl
of_column (kind.RowStart p) (value.Int n) same short = absurd (false≢true same)
of_column (kind.RowStart p) (value.Text t) same short = absurd (false≢true same)
of_column (kind.RowStart p) (value.Date d) same short = absurd (false≢true same)
of_column (kind.RowEnd p) (value.Int n) same short = absurd (false≢true same)
of_column (kind.RowEnd p) (value.Text t) same short = absurd (false≢true same)
of_column (kind.RowEnd p) (value.Date d) same short = absurd (false≢true same)

not_false : (b : Bool) → not b ≡ false → b ≡ true
not_false true e = refl
not_false false e = sym e

second_fails : (a b : Bool) → (a && b) ≡ false → a ≡ true → b ≡ false
second_fails true b e is = e
second_fails false b e is = absurd (false≢true is)

-- ---- columns by name

module _ (t : TableDef) (distinct : has_distinct_names t ≡ true) where
  -- a column is found by its name, with its kind
  its_kind : (place : ℕ) (x : Column) → place < length t.columns → x ≡ get_or t.columns place x → def_kind t x.name ≡ Some (kind_of_column x.kind)
  unfolding def_kind find_among place_among
  its_kind place x inside item =
      let p : Column → Bool = λ y. bytes_eq x.name y.name in
      let first = position-Some p t.columns place x (its_place t place x distinct inside item) in
      ap (option_map (λ (y : Column). kind_of_column y.kind)) (found_first p t.columns place x first.0 first.1 first.2 ∙ ap (λ (y : Column). Some y) (sym item))

  -- a value that is given for a column by its name, and is not wrong, is a value of the column
  fits_named : (place : ℕ) (x : Column) (name : Name) (v : Value) → slice_get t.columns place ≡ Some x → bytes_eq name x.name ≡ true → is_of_other_kind t (name, v) ≡ false → is_too_long t (name, v) ≡ false → is_of_column x.kind v ≡ true
  unfolding is_of_other_kind is_too_long differ
  fits_named place x name v there named kinds lengths =
      let inside : place < length t.columns = slice_get_within t.columns place x there in
      let item : x ≡ get_or t.columns place x = sym (get_or_from_slice_get t.columns place x x there) in
      let same : name ≡ x.name = (bytes_eq-Decides name x.name).0 named in
      let of_kind : not (same_kind (kind_of_column x.kind) (kind_of_value v)) ≡ false = rw (same, its_kind place x inside item) at kinds in
      let short : (bytes_eq name x.name && is_longer x.kind v) ≡ false = fails_at (λ (y : Column). bytes_eq name y.name && is_longer y.kind v) t.columns place x inside item lengths in
      of_column x.kind v (not_false (same_kind (kind_of_column x.kind) (kind_of_value v)) of_kind) (second_fails (bytes_eq name x.name) (is_longer x.kind v) short named)

  -- ---- the value columns

  abbrev IsThere : ℕ × Column → Type 0
  IsThere c = slice_get t.columns c.0 ≡ Some c.1

  at_length : (before : List Column) (x : Column) (more : List Column) → slice_get (before ++ x ∷ more) (length before) ≡ Some x
  at_length [] x more = refl
  at_length (first ∷ before) x more = at_length before x more

  numbered : (before xs : List Column) → AllByRecursion (λ (c : ℕ × Column). slice_get (before ++ xs) c.0 ≡ Some c.1) (enumerate_from (length before) xs)
  numbered before [] = tt
  numbered before (x ∷ xs) =
      let long : length (before ++ x ∷ []) ≡ length before + 1 = length-append before (x ∷ []) in
      let more = numbered (before ++ x ∷ []) xs in (
        at_length before x xs,
        subst (λ (n : ℕ). AllByRecursion (λ (c : ℕ × Column). slice_get (before ++ x ∷ xs) c.0 ≡ Some c.1) (enumerate_from n xs)) long
            (subst (λ (l : List Column). AllByRecursion (λ (c : ℕ × Column). slice_get l c.0 ≡ Some c.1) (enumerate_from (length (before ++ x ∷ [])) xs)) (append_assoc before (x ∷ []) xs) more),
      )

  are_there : AllByRecursion IsThere (value_columns t)
  are_there = all-filter IsThere (is_value_column t) (enumerate_from 0 t.columns) (numbered [] t.columns)

  -- ---- the rows of an INSERT

  -- an element that passes one test is found by another, if it is the only one that passes that
  found : {X : Type 0} (p q : X → Bool) (xs : List X) (x : X) → list_any q xs ≡ false → find p xs ≡ Some x → (p x ≡ true) × (q x ≡ false)
  found p q [] x none is = absurd (none-some x is)
  found {X} p q (y ∷ xs) x none is =
      let parts = or_parts (q y) (list_any q xs) none in
      (elim (p y) as (λ b. p y ≡ b → cond b (Some y) (find p xs) ≡ Some x → (p x ≡ true) × (q x ≡ false)) [
        | true ↦ (λ passes first. let same : y ≡ x = same_Some y x first in (subst (λ (z : X). p z ≡ true) same passes, subst (λ (z : X). q z ≡ false) same parts.0))
        | false ↦ (λ fails more. found p q xs x parts.1 more)
      ]) refl is

  abbrev its_value : Name × Value → Value
  its_value given = given.1

  given_found : (list : Option (List Name)) (row : List Value) (name : Name) (v : Value) → given_value t list row name ≡ Some v →
      (given : Name × Value) × (find (λ (g : Name × Value). bytes_eq name g.0) (given_values t list row) ≡ Some given) × (given.1 ≡ v)
  unfolding given_value
  given_found list row name v is = go (find (λ (g : Name × Value). bytes_eq name g.0) (given_values t list row)) refl is
    where
      go : (o : Option (Name × Value)) → find (λ (g : Name × Value). bytes_eq name g.0) (given_values t list row) ≡ o → option_map its_value o ≡ Some v →
          (given : Name × Value) × (find (λ (g : Name × Value). bytes_eq name g.0) (given_values t list row) ≡ Some given) × (given.1 ≡ v)
      go None at none = absurd (none-some v none)
      go (Some given) at some = (given, at, same_Some given.1 v some)

  fits_given : (list : Option (List Name)) (row : List Value) → gives_faulty_value fault.Kind t list row ≡ false → gives_faulty_value fault.Length t list row ≡ false →
      (columns : List (ℕ × Column)) (values : List Value) → AllByRecursion IsThere columns → map (given_value t list row) (map (λ (c : ℕ × Column). c.1.name) columns) ≡ map (λ (v : Value). Some v) values → are_of_columns columns values ≡ true
  unfolding gives_faulty_value is_faulty
  fits_given list row kinds lengths [] [] there same = refl
  fits_given list row kinds lengths [] (v ∷ values) there same = cc
  fits_given list row kinds lengths (c ∷ columns) [] there same = cc
  fits_given list row kinds lengths (c ∷ columns) (v ∷ values) there same =
      let first : given_value t list row c.1.name ≡ Some v = cc in
      let later : map (given_value t list row) (map (λ (d : ℕ × Column). d.1.name) columns) ≡ map (λ (w : Value). Some w) values = cc in
      let (given, at, is) = given_found list row c.1.name v first in
      let by_name : Name × Value → Bool = λ g. bytes_eq c.1.name g.0 in
      let of_kind = found by_name (is_faulty fault.Kind t) (given_values t list row) given kinds at in
      let short = found by_name (is_faulty fault.Length t) (given_values t list row) given lengths at in
      let same_name : c.1.name ≡ given.0 = (bytes_eq-Decides c.1.name given.0).0 of_kind.0 in
      let named : bytes_eq given.0 c.1.name ≡ true = (bytes_eq-Decides given.0 c.1.name).1 (sym same_name) in
      let fits : is_of_column c.1.kind given.1 ≡ true = fits_named c.0 c.1 given.0 given.1 there.0 named of_kind.1 short.1 in
      let here : is_of_column c.1.kind v ≡ true = subst (λ (w : Value). is_of_column c.1.kind w ≡ true) is fits in
      rw here (fits_given list row kinds lengths columns values there.1 later)

  -- ---- SET

  -- the value is a value of the column at the position
  abbrev pub FitsAt : List (ℕ × Column) → ℕ → Value → Type 0
  FitsAt columns n v = (c : ℕ × Column) → slice_get columns n ≡ Some c → is_of_column c.1.kind v ≡ true

  named_at : (columns : List (ℕ × Column)) (n : ℕ) (c : ℕ × Column) (d : Name) → slice_get columns n ≡ Some c → get_or (map (λ (x : ℕ × Column). x.1.name) columns) n d ≡ c.1.name
  named_at [] n c d there = absurd (none-some c there)
  named_at (x ∷ columns) zero c d there = ap (λ (y : ℕ × Column). y.1.name) (same_Some x c there)
  named_at (x ∷ columns) (suc n) c d there = named_at columns n c d there

  pub fits_set : (w : written.Assignment) (a : Assignment) → resolved_assignment t w ≡ Some a → set_faults t w ≡ no_faults → FitsAt (value_columns t) a.position a.value
  unfolding set_faults value_position
  fits_set w a is clean c there = go (value_position t w.column) refl is
    where
      go : (o : Option ℕ) → value_position t w.column ≡ o → option_map (λ (n : ℕ). record { position = n; value = w.value }) o ≡ Some a → is_of_column c.1.kind a.value ≡ true
      go None at none = absurd (none-some a none)
      go (Some n) at some =
          let same : record { position = n; value = w.value } ≡ a = same_Some (record { position = n; value = w.value }) a some in
          let place : n ≡ a.position = ap (λ (b : Assignment). b.position) same in
          let first = position-Some (bytes_eq w.column) (value_names t) n c.1.name at in
          let name : get_or (value_names t) n c.1.name ≡ c.1.name = named_at (value_columns t) n c c.1.name (subst (λ (m : ℕ). slice_get (value_columns t) m ≡ Some c) (sym place) there) in
          let named : bytes_eq w.column c.1.name ≡ true = subst (λ (m : Name). bytes_eq w.column m ≡ true) name first.1 in
          let fits : is_of_column c.1.kind w.value ≡ true = fits_named c.0 c.1 w.column w.value (all-slice_get IsThere (value_columns t) a.position c there are_there) named
          (ap (λ (f : Faults). f.kinds) clean) (ap (λ (f : Faults). f.long) clean) in
          subst (λ (v : Value). is_of_column c.1.kind v ≡ true) (ap (λ (b : Assignment). b.value) same) fits

-- values of columns, one of them set anew, are values of the columns
set_one : (columns : List (ℕ × Column)) (values : List Value) (n : ℕ) (v : Value) → are_of_columns columns values ≡ true → ((c : ℕ × Column) → slice_get columns n ≡ Some c → is_of_column c.1.kind v ≡ true) → are_of_columns columns (set values n v) ≡ true
set_one [] [] n v are fits = refl
set_one [] (w ∷ values) n v are fits = absurd (false≢true are)
set_one (c ∷ columns) [] n v are fits = absurd (false≢true are)
set_one (c ∷ columns) (w ∷ values) zero v are fits =
    let parts = and_parts (is_of_column c.1.kind w) (are_of_columns columns values) are in rw (fits c refl) parts.1
set_one (c ∷ columns) (w ∷ values) (suc n) v are fits =
    let parts = and_parts (is_of_column c.1.kind w) (are_of_columns columns values) are in rw parts.0 (set_one columns values n v parts.1 fits)

abbrev set_in : List Value → Assignment → List Value
set_in values a = set values a.position a.value

-- each of the assignments sets a value
pub set_each : (columns : List (ℕ × Column)) (assignments : List Assignment) (values : List Value) → AllByRecursion (λ (a : Assignment). (c : ℕ × Column) → slice_get columns a.position ≡ Some c → is_of_column c.1.kind a.value ≡ true) assignments → are_of_columns columns values ≡ true →
    are_of_columns columns (fold set_in values assignments) ≡ true
set_each columns [] values fits are = are
set_each columns (a ∷ assignments) values fits are = set_each columns assignments (set values a.position a.value) fits.1 (set_one columns values a.position a.value are fits.0)

-- the rows that an INSERT gives, and the values that SET gives
pub fits_row : (t : TableDef) → has_distinct_names t ≡ true → (list : Option (List Name)) (row values : List Value) → gives_faulty_value fault.Kind t list row ≡ false → gives_faulty_value fault.Length t list row ≡ false →
    map (given_value t list row) (value_names t) ≡ map (λ (v : Value). Some v) values → are_of_columns (value_columns t) values ≡ true
fits_row t distinct list row values kinds lengths same = fits_given t distinct list row kinds lengths (value_columns t) values (are_there t distinct) same
