-- A row that no condition of INSERT refuses gives each column a value, and a DATE column a date.
use Rattle.std.proofs.Common.{◌≡◌, ◌∷◌, ◌||◌, ◌&&◌, ◌<◌, ◌∙◌, ℕ, ℤ, zero, suc, Bool, true, false, not, List, [], Option, None, Some, arith, ap, bytes_eq, cond, count_by, filter, get_or, length, map, refl, sym, take}
use Rattle.std.specs.Prelude.{◌==◌, slice_get}
use Rattle.std.specs.List.{find, list_all, list_any, zip}
use Rattle.std.specs.Option.{option_and_then, option_map}
use Rattle.std.proofs.lemmas.Bool.{and_parts, false≢true, or_parts}
use Rattle.std.proofs.lemmas.Bool.Decides.{nat_tests}
use Rattle.std.proofs.lemmas.List.Folds.{list_any_at}
use Rattle.std.proofs.lemmas.List.Quantifiers.{position-Some}
use Rattle.std.proofs.lemmas.Option.{get_or_from_slice_get, none-some, same_Some, slice_get_within}
use Rattle.std.proofs.lemmas.Slice.Eq.{bytes_eq-Decides}
use Rattle.period_core.specs.declared.value.Value.{Value}
use Rattle.period_core.specs.declared.value.Value.TheVariants.{Int, Text, Date}
use Rattle.sql_statements.specs.declared.statement.InsertRows.{InsertRows}
use Rattle.catalog_core.proofs.lemmas.lists.Counted.{any_counted}
use Rattle.catalog_core.proofs.lemmas.lists.Kept.{kept_by}
use Rattle.catalog_core.proofs.lemmas.create.Shape.{is_equal}
use Rattle.catalog_core.proofs.lemmas.judged.Sound.{fails_at}
use Rattle.statement_resolution.specs.change.Insertion.{given_names, given_value, given_values, gives_faulty_value, has_other_count, has_faulty_value, is_of_other_kind, is_faulty, omits_column, has_row_of_other_length, value_for, wanted_names}
use Rattle.catalog_core.specs.table.Kinds.{differ, kind_of_column, kind_of_value, same_kind}
use Rattle.catalog_core.specs.table.Naming.{Name, match_count, passes}
use Rattle.catalog_core.specs.table.TableWords.{def_kind, def_place, has_date_period, is_date_column, is_system, is_value_column, table_of}
use Rattle.statement_resolution.specs.declared.change.insert_values.ValueFault.TheVariants as fault
use Rattle.catalog_core.specs.declared.table.Column.{Column}
use Rattle.catalog_core.specs.declared.table.ColumnKind.{ColumnKind}
use Rattle.catalog_core.specs.declared.table.ColumnKind.TheVariants as column
use Rattle.catalog_core.specs.declared.table.ValueKind.TheVariants as kind
use Rattle.catalog_core.specs.declared.table.TableDef.{TableDef}
use Rattle.catalog_core.specs.table.Naming.{matches_among, place_among}
use Rattle.catalog_core.specs.table.Naming.{find_among}

-- ==== each column has a value ====

-- the name of a column that is no system column is among those that a row's values are given for
given_named : (t : TableDef) (list : Option (List Name)) (i : ℕ) (x : Column) → i < length t.columns → x ≡ get_or t.columns i x → is_system x.kind ≡ false
    → passes (omits_column t) list ≡ false → list_any (bytes_eq x.name) (given_names t list) ≡ true
unfolding given_names wanted_names omits_column matches_among
given_named t None i x here item plain names =
    let wanted : Column → Bool = λ y. not (is_system y.kind) in
    let all : List Name = map (λ (y : Column). y.name) (filter wanted t.columns) in
    let place : ℕ = length (filter wanted (take i t.columns)) in
    let at = kept_by wanted (λ (y : Column). y.name) t.columns i x place here item (ap not plain) refl in
    let inside = slice_get_within all place x.name at in
    let name = get_or_from_slice_get all place x.name x.name at in
    list_any_at (bytes_eq x.name) all place x.name inside (ap (bytes_eq x.name) name ∙ (bytes_eq-Decides x.name x.name).1 refl)
given_named t (Some listed) i x here item plain names =
    let lacked : Column → Bool = λ y. not (is_system y.kind) && match_count listed y.name == 0 in
    let other : lacked x ≡ false = fails_at lacked t.columns i x here item names in
    any_counted (bytes_eq x.name) listed (ap (λ b. not b && count_by (bytes_eq x.name) listed == 0) (sym plain) ∙ other)

found_with : {A B : Type 0} (p : A → Bool) (xs : List A) (ys : List B) → length ys ≡ length xs → list_any p xs ≡ true
    → option_map (λ (q : A × B). q.1) (find (λ (q : A × B). p q.0) (zip xs ys)) ≡ None → ⊥
found_with p [] ys long some none = false≢true some
found_with p (x ∷ xs) [] long some none = absurd (omega (arith, long))
found_with {A} {B} p (x ∷ xs) (y ∷ ys) long some none =
    (elim (p x) as (λ b. (b || list_any p xs) ≡ true → option_map (λ (q : A × B). q.1) (cond b (Some (x, y)) (find (λ (q : A × B). p q.0) (zip xs ys))) ≡ None → ⊥) [
      | true ↦ (λ s n. none-some y (sym n))
      | false ↦ (λ s n. found_with p xs ys (omega (arith, long)) s n)
    ]) some none

pub given_there : (t : TableDef) (list : Option (List Name)) (row : List Value) (i : ℕ) (x : Column) → i < length t.columns → x ≡ get_or t.columns i x → is_system x.kind ≡ false
    → passes (omits_column t) list ≡ false → length row ≡ length (given_names t list) → given_value t list row x.name ≡ None → ⊥
unfolding given_value
given_there t list row i x here item plain names long none =
    found_with (bytes_eq x.name) (given_names t list) row long (given_named t list i x here item plain names) none

not_true : (b : Bool) → not b ≡ true → b ≡ false
not_true true e = sym e
not_true false e = refl

pub value_plain : (t : TableDef) (place : ℕ) (x : Column) → is_value_column t (place, x) ≡ true → is_system x.kind ≡ false
unfolding is_value_column
value_plain t place x e =
    let rest = and_parts (not (place == t.period.start)) (not (place == t.period.end) && not (is_system x.kind)) e in
    not_true (is_system x.kind) (and_parts (not (place == t.period.end)) (not (is_system x.kind)) rest.1).1

-- ==== a DATE column has a date ====

passing : {X : Type 0} (test : X → Bool) (o : Option X) → passes test o ≡ true → (x : X) × (o ≡ Some x) × (test x ≡ true)
passing test None e = absurd (false≢true e)
passing test (Some x) e = (x, refl, e)

-- the first element that passes a test is the one that `find` gives
pub found_first : {X : Type 0} (p : X → Bool) (xs : List X) (n : ℕ) (d : X) → n < length xs → p (get_or xs n d) ≡ true → ((k : ℕ) → k < n → p (get_or xs k d) ≡ false)
    → find p xs ≡ Some (get_or xs n d)
found_first p [] n d here first before = absurd (omega (arith, here))
found_first p (x ∷ xs) zero d here first before = rw first refl
found_first p (x ∷ xs) (suc n) d here first before =
    let failing : p x ≡ false = before zero (omega arith) in
    rw failing (found_first p xs n d (omega (arith, here)) first (λ k less. before (suc k) (omega (arith, less))))

is_date_kind : (k : ColumnKind) → same_kind (kind_of_column k) kind.Date ≡ true → k ≡ column.Date
unfolding same_kind kind_of_column
is_date_kind column.Integer e = absurd (false≢true e)
is_date_kind (column.Varchar n) e = absurd (false≢true e)
is_date_kind column.Date e = refl
is_date_kind (column.RowStart p) e = absurd (false≢true e)
is_date_kind (column.RowEnd p) e = absurd (false≢true e)

-- the column at the place, and the place that its name gives
pub record DateColumn (t : TableDef) (place : ℕ) : Type 0 where
  pub found : Column
  pub there : slice_get t.columns place ≡ Some found
  pub plain : is_system found.kind ≡ false
  kinds : def_kind t found.name ≡ Some kind.Date

pub date_column : (t : TableDef) (place : ℕ) → is_date_column t place ≡ true → DateColumn t place
unfolding is_date_column place_among def_kind kind_of_column find_among
date_column t place e =
    let test : Column → Bool = λ x. same_kind (kind_of_column x.kind) kind.Date && passes (λ named. named == place) (def_place t x.name) in
    let at = passing test (slice_get t.columns place) e in
    let x : Column = at.0 in
    let parts = and_parts (same_kind (kind_of_column x.kind) kind.Date) (passes (λ named. named == place) (def_place t x.name)) at.2 in
    let dated : x.kind ≡ column.Date = is_date_kind x.kind parts.0 in
    let named = passing (λ (n : ℕ). n == place) (def_place t x.name) parts.1 in
    let here : named.0 ≡ place = let e : (named.0 == place) ≡ true = named.2 in grind (arith, nat_tests) in
    let p : Column → Bool = λ y. bytes_eq x.name y.name in
    let first = position-Some p t.columns place x (named.1 ∙ ap (λ (n : ℕ). Some n) here) in
    let item : get_or t.columns place x ≡ x = get_or_from_slice_get t.columns place x x at.1 in
    let finds : find p t.columns ≡ Some x = found_first p t.columns place x first.0 first.1 first.2 ∙ ap (λ (y : Column). Some y) item in
    record {
      found = x;
      there = at.1;
      plain = ap is_system dated;
      kinds = ap (option_map (λ (y : Column). kind_of_column y.kind)) finds ∙ ap (λ k. Some (kind_of_column k)) dated;
    }

mapped_some : {X Y : Type 0} (f : X → Y) (o : Option X) (y : Y) → option_map f o ≡ Some y → (x : X) × (o ≡ Some x) × (f x ≡ y)
mapped_some f None y e = absurd (none-some y e)
mapped_some f (Some x) y e = (x, refl, same_Some (f x) y e)

found_fails : {X : Type 0} (p q : X → Bool) (xs : List X) (x : X) → find p xs ≡ Some x → list_any q xs ≡ false → (p x ≡ true) × (q x ≡ false)
found_fails p q [] x found none = absurd (none-some x found)
found_fails {X} p q (y ∷ ys) x found none =
    let parts = or_parts (q y) (list_any q ys) none in
    (elim (p y) as (λ b. p y ≡ b → cond b (Some y) (find p ys) ≡ Some x → (p x ≡ true) × (q x ≡ false)) [
      | true ↦ (λ e f. let same : y ≡ x = same_Some y x f in (ap p (sym same) ∙ e, ap q (sym same) ∙ parts.0))
      | false ↦ (λ e f. found_fails p q ys x f parts.1)
    ]) refl found

date_of : (v : Value) → differ (Some kind.Date) (Some (kind_of_value v)) ≡ false → (day : ℤ) × (v ≡ Date day)
unfolding differ same_kind
date_of (Int n) e = absurd (false≢true (sym e))
date_of (Text s) e = absurd (false≢true (sym e))
date_of (Date day) e = (day, refl)

dated_value : (t : TableDef) (list : Option (List Name)) (row : List Value) (name : Name) (v : Value) → gives_faulty_value fault.Kind t list row ≡ false
    → def_kind t name ≡ Some kind.Date → given_value t list row name ≡ Some v → (day : ℤ) × (v ≡ Date day)
unfolding gives_faulty_value is_faulty is_of_other_kind given_value
dated_value t list row name v right kinds given =
    let p : Name × Value → Bool = λ g. bytes_eq name g.0 in
    let q : Name × Value → Bool = λ g. differ (def_kind t g.0) (Some (kind_of_value g.1)) in
    let pairs = given_values t list row in
    let found = mapped_some (λ (g : Name × Value). g.1) (find p pairs) v given in
    let tests = found_fails p q pairs found.0 found.1 right in
    let named : name ≡ found.0.0 = (bytes_eq-Decides name found.0.0).0 tests.0 in
    let same : differ (Some kind.Date) (Some (kind_of_value v)) ≡ differ (def_kind t found.0.0) (Some (kind_of_value found.0.1)) =
    ap (λ k. differ k (Some (kind_of_value v))) (sym kinds ∙ ap (def_kind t) named) ∙ ap (λ w. differ (def_kind t found.0.0) (Some (kind_of_value w))) (sym found.2) in
    date_of v (same ∙ tests.1)

pub date_given : (t : TableDef) (list : Option (List Name)) (row : List Value) (place : ℕ) → passes (omits_column t) list ≡ false
    → length row ≡ length (given_names t list) → gives_faulty_value fault.Kind t list row ≡ false → is_date_column t place ≡ true
    → (day : ℤ) × (value_for t list row place ≡ Some (Date day))
unfolding value_for
date_given t list row place names long right dated =
    let at = date_column t place dated in
    let x : Column = at.found in
    let here : place < length t.columns = slice_get_within t.columns place x at.there in
    let item : x ≡ get_or t.columns place x = sym (get_or_from_slice_get t.columns place x x at.there) in
    let value : value_for t list row place ≡ given_value t list row x.name = ap (option_and_then (λ (y : Column). given_value t list row y.name)) at.there in
    (elim (given_value t list row x.name) as (λ o. given_value t list row x.name ≡ o → (day : ℤ) × (value_for t list row place ≡ Some (Date day))) [
      | None ↦ (λ e. absurd (given_there t list row place x here item at.plain names long e))
      | Some v ↦ (λ e. let d = dated_value t list row x.name v right at.kinds e in (d.0, value ∙ e ∙ ap (λ (w : Value). Some w) d.1))
    ]) refl

-- the tests that each of a catalog's tables passes, by its number and by its name
pub all_at : (test : TableDef → Bool) (tables : List TableDef) (number : ℕ) (t : TableDef) → list_all test tables ≡ true → table_of tables number ≡ Some t → test t ≡ true
all_at test tables zero t all there = absurd (none-some t there)
all_at test [] (suc place) t all there = absurd (none-some t there)
all_at test (table ∷ tables) (suc zero) t all there =
    ap test (sym (same_Some table t there)) ∙ (and_parts (test table) (list_all test tables) all).0
all_at test (table ∷ tables) (suc (suc place)) t all there =
    all_at test tables (suc place) t (and_parts (test table) (list_all test tables) all).1 there

pub record DateParts (t : TableDef) : Type 0 where
  pub start : is_date_column t t.period.start ≡ true
  pub end : is_date_column t t.period.end ≡ true

pub date_parts : (t : TableDef) → has_date_period t ≡ true → DateParts t
unfolding has_date_period
date_parts t dated =
    let both = and_parts (not (t.period.start == t.period.end)) (is_date_column t t.period.start && is_date_column t t.period.end) dated in
    let each = and_parts (is_date_column t t.period.start) (is_date_column t t.period.end) both.1 in
    record { start = each.0; end = each.1 }

-- the conditions of all rows hold of one row
pub record RowParts (t : TableDef) (insert : InsertRows) (row : List Value) : Type 0 where
  pub names : passes (omits_column t) insert.columns ≡ false
  pub count : length row ≡ length (given_names t insert.columns)
  pub kinds : gives_faulty_value fault.Kind t insert.columns row ≡ false

pub row_parts : (t : TableDef) (insert : InsertRows) (i : ℕ) (row : List Value) → has_other_count t insert ≡ false → has_faulty_value fault.Kind t insert ≡ false
    → i < length insert.rows → row ≡ get_or insert.rows i row → RowParts t insert row
unfolding has_other_count has_row_of_other_length has_faulty_value
row_parts t insert i row counted right here item =
    let other : List Value → Bool = λ r. not (length r == length (given_names t insert.columns)) in
    let parts = or_parts (passes (omits_column t) insert.columns) (list_any other insert.rows) counted in
    record {
      names = parts.0;
      count = is_equal (length row) (length (given_names t insert.columns)) (fails_at other insert.rows i row here item parts.1);
      kinds = fails_at (λ (r : List Value). gives_faulty_value fault.Kind t insert.columns r) insert.rows i row here item right;
    }
