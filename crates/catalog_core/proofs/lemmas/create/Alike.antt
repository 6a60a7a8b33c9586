-- A CREATE and the definition that it gives: each test of the one is a test of the other.
use Rattle.std.proofs.Common.{◌≡◌, ◌+◌, ◌∷◌, ◌&&◌, ◌||◌, ◌∙◌, ℕ, Bool, true, false, not, List, [], Option, None, Some, arith, ap, ap₂, bytes_eq, cond, inl, inr, length, map, nat_lt, refl, sym}
use Rattle.std.specs.Prelude.{◌==◌, is_some, slice_get}
use Rattle.std.specs.List.{list_any, position_or_len}
use Rattle.std.specs.Option.{option_map}
use Rattle.std.proofs.lemmas.Bool.{eq-eqb, eqb-true, false≢true, not-false, or_cases, or_parts}
use Rattle.std.proofs.lemmas.Slice.Eq.{bytes_eq-Decides}
use Rattle.sql_statements.specs.declared.create.ColumnElement.{ColumnElement}
use Rattle.sql_statements.specs.declared.create.CreateTable.{CreateTable}
use Rattle.sql_statements.specs.declared.create.KeyElement.{KeyElement}
use Rattle.sql_statements.specs.declared.create.PeriodElement.{PeriodElement}
use Rattle.sql_statements.specs.declared.create.ReferenceElement.{ReferenceElement}
use Rattle.sql_statements.specs.declared.create.SystemElement.{SystemElement}
use Rattle.catalog_core.proofs.lemmas.create.Built.{mapped_lengths}
use Rattle.catalog_core.proofs.lemmas.create.Declared.{any_alike, any_numbered_alike, both_ways, columns_same, counted_cons, counts_alike, generated_system, keyed_same, names_equal, no_key_same, other_kind_same, reference_same, repeated_same, repeats_same}
use Rattle.catalog_core.proofs.lemmas.create.PlacedNames.{placed_there}
use Rattle.catalog_core.specs.create.Creation.{has_bad_period, has_bad_system_period, is_keyed, is_no_value_column, is_other, is_shared, keys_period_column, names_no_key, names_other_kind, own_matches, period_matches, references_no_key, references_other_kind, repeats_name}
use Rattle.catalog_core.specs.create.Definition.{Defines, column_parts, columns_of, declared_column, declared_key, declared_period, declared_reference, own_place, reference_parts}
use Rattle.catalog_core.specs.create.Places.{are_dates, declared_at, has_place, is_row_end, is_row_start, refers_to_no_key, refers_to_other_kind, repeats_place}
use Rattle.catalog_core.specs.create.PlacedTests.{is_keyed_place, keys_other_column, names_several, repeats_some}
use Rattle.catalog_core.specs.table.Matches.{is_matching}
use Rattle.catalog_core.specs.table.Naming.{Name, matches_among, passes, place_among, repeats}
use Rattle.catalog_core.specs.table.TableWords.{def_matches, def_place, has_distinct_names, is_system, is_value_column}
use Rattle.catalog_core.specs.declared.table.match_counts.MatchCount.TheVariants.{Many}
use Rattle.catalog_core.specs.declared.table.Column.{Column}
use Rattle.catalog_core.specs.declared.table.ColumnKind.{ColumnKind}
use Rattle.catalog_core.specs.declared.table.ColumnKind.TheVariants.{Integer, Varchar, Date, RowStart, RowEnd}
use Rattle.catalog_core.specs.declared.table.Reference.{Reference}
use Rattle.catalog_core.specs.declared.table.TableDef.{TableDef}

or_false : (b : Bool) → (b || false) ≡ b
or_false true = refl
or_false false = refl

either : {a b c d : Bool} → a ≡ c → b ≡ d → (a || b) ≡ (c || d)
either first second = ap₂ (λ (x y : Bool). x || y) first second

abbrev Sides : Type 0
Sides = Name × Option ℕ × Option ℕ

-- ==== columns ====

pub columns_are : (tables : List TableDef) (c : CreateTable) (d : TableDef) → Defines tables c d → columns_of c ≡ d.columns
columns_are tables c d defines = columns_same c.columns d.columns defines.columns

first_alike : {X Y Z : Type 0} (p : Z → Bool) (f : X → Z) (g : Y → Z) (xs : List X) (ys : List Y) → map f xs ≡ map g ys
    → position_or_len (λ x. p (f x)) xs ≡ position_or_len (λ y. p (g y)) ys
first_alike p f g [] [] same = refl
first_alike p f g [] (y ∷ ys) same = cc
first_alike p f g (x ∷ xs) [] same = cc
first_alike p f g (x ∷ xs) (y ∷ ys) same =
    let first : f x ≡ g y = cc in
    let later : map f xs ≡ map g ys = cc in
    ap (λ z. cond (not (p z)) (1 + position_or_len (λ w. p (f w)) xs) 0) first
    ∙ ap (λ n. cond (not (p (g y))) (1 + n) 0) (first_alike p f g xs ys later)

-- a name has the same place in both
pub own_placed : (c : CreateTable) (d : TableDef) (name : Name) → map declared_column c.columns ≡ map column_parts d.columns → own_place c name ≡ def_place d name
unfolding place_among
own_placed c d name same =
    let p : Name × Option ColumnKind → Bool = λ q. bytes_eq name q.0 in
    ap (λ n. cond (nat_lt n (length c.columns)) (Some n) None) (first_alike p declared_column column_parts c.columns d.columns same)
    ∙ ap (λ n. cond (nat_lt (position_or_len (λ (y : Column). bytes_eq name y.name) d.columns) n) (Some (position_or_len (λ (y : Column). bytes_eq name y.name) d.columns)) None)
    (mapped_lengths declared_column column_parts c.columns d.columns same)

pub own_matched : (c : CreateTable) (d : TableDef) (name : Name) → map declared_column c.columns ≡ map column_parts d.columns → own_matches c name ≡ def_matches d name
unfolding matches_among
own_matched c d name same =
    counts_alike declared_column column_parts (λ (x : ColumnElement). bytes_eq name x.name) (λ (y : Column). bytes_eq name y.name)
    (λ x y e. ap (λ (q : Name × Option ColumnKind). bytes_eq name q.0) e) c.columns d.columns same

-- ==== names that are shared, and lists that repeat one ====

pub period_counted : (c : CreateTable) (name : Name) (sides : Sides) → map (declared_period c) c.periods ≡ sides ∷ [] → period_matches c name ≡ cond (bytes_eq name sides.0) 1 0
unfolding period_matches
period_counted c name sides same =
    let q : Sides → Bool = λ s. bytes_eq name s.0 in
    let counted = counts_alike (declared_period c) (λ (s : Sides). s) (λ (x : PeriodElement). bytes_eq name x.name) q (λ x s e. ap q e) c.periods (sides ∷ []) same in
    let none : cond (q sides) 1 0 + 0 ≡ cond (q sides) 1 0 = omega arith in
    counted ∙ counted_cons q sides [] ∙ none

shared_same : (tables : List TableDef) (c : CreateTable) (d : TableDef) (name : Name) → Defines tables c d → is_shared c name ≡ names_several d name
unfolding is_shared names_several
shared_same tables c d name defines =
    ap₂ (λ (n m : ℕ). is_matching Many (n + m)) (own_matched c d name defines.columns)
    (period_counted c name (d.period.name, Some d.period.start, Some d.period.end) defines.period)

pub repeats_alike : (tables : List TableDef) (c : CreateTable) (d : TableDef) → Defines tables c d → repeats_name c ≡ repeats_some d
unfolding repeats_name repeats_some
repeats_alike tables c d defines =
    let sides : Sides = (d.period.name, Some d.period.start, Some d.period.end) in
    let columns : list_any (λ (x : ColumnElement). is_shared c x.name) c.columns ≡ list_any (λ (y : Column). names_several d y.name) d.columns =
    any_alike declared_column column_parts (λ (x : ColumnElement). is_shared c x.name) (λ (y : Column). names_several d y.name)
    (λ x y e. shared_same tables c d x.name defines ∙ ap (λ (q : Name × Option ColumnKind). names_several d q.0) e) c.columns d.columns defines.columns in
    let periods : list_any (λ (x : PeriodElement). is_shared c x.name) c.periods ≡ names_several d d.period.name =
    any_alike (declared_period c) (λ (s : Sides). s) (λ (x : PeriodElement). is_shared c x.name) (λ (s : Sides). names_several d s.0)
    (λ x s e. shared_same tables c d x.name defines ∙ ap (λ (q : Sides). names_several d q.0) e) c.periods (sides ∷ []) defines.period
    ∙ or_false (names_several d d.period.name) in
    let keys : list_any (λ (x : KeyElement). repeats x.columns) c.keys ≡ repeats_place d.key =
    any_alike (declared_key c) (map Some) (λ (x : KeyElement). repeats x.columns) repeats_place
    (λ x places e. repeated_same (λ (y : ColumnElement). y.name) c.columns x.columns places e) c.keys (d.key ∷ []) defines.key
    ∙ or_false (repeats_place d.key) in
    let references : list_any (λ (x : ReferenceElement). repeats x.columns || repeats x.parent_columns) c.references ≡ list_any (λ (r : Reference). repeats_place r.own || repeats_place r.keys) d.references =
    any_alike (declared_reference tables c) reference_parts (λ (x : ReferenceElement). repeats x.columns || repeats x.parent_columns) (λ (r : Reference). repeats_place r.own || repeats_place r.keys)
    (repeats_same tables c) c.references d.references defines.references in
    either (either (either columns periods) keys) references

-- ==== period and system columns ====

same_number : (i k : ℕ) → (i == k) ≡ (k == i)
same_number i k = both_ways (i == k) (k == i) (λ e. eq-eqb k i (sym (eqb-true i k e))) (λ e. eq-eqb i k (sym (eqb-true k i e)))

start_system : (k : ColumnKind) → is_row_start k ≡ true → is_system k ≡ true
start_system Integer e = e
start_system (Varchar n) e = e
start_system Date e = e
start_system (RowStart p) e = refl
start_system (RowEnd p) e = refl

end_system : (k : ColumnKind) → is_row_end k ≡ true → is_system k ≡ true
end_system Integer e = e
end_system (Varchar n) e = e
end_system Date e = e
end_system (RowStart p) e = refl
end_system (RowEnd p) e = refl

-- a column of SYSTEM_TIME is a system column
side_system : (test : ColumnKind → Bool) (c : CreateTable) (n m : Name) (i : ℕ) (k : ColumnKind) → ((l : ColumnKind) → test l ≡ true → is_system l ≡ true)
    → own_place c n ≡ Some i → declared_at (columns_of c) (Some i) ≡ Some k → is_other test c m ≡ false → bytes_eq n m ≡ true → is_system k ≡ true
side_system test c n m i k gives here there other equal =
    let at : declared_at (columns_of c) (own_place c m) ≡ Some k =
    ap (λ (z : Name). declared_at (columns_of c) (own_place c z)) (sym ((bytes_eq-Decides n m).0 equal)) ∙ ap (declared_at (columns_of c)) here ∙ there in
    gives k (not-false (test k) (sym (ap (λ (o : Option ColumnKind). not (passes test o)) at) ∙ other))

system_named : (c : CreateTable) (n : Name) (i : ℕ) (k : ColumnKind) (systems : List SystemElement) → own_place c n ≡ Some i → declared_at (columns_of c) (Some i) ≡ Some k
    → list_any (λ (x : SystemElement). is_other is_row_start c x.start || is_other is_row_end c x.end) systems ≡ false
    → list_any (λ (x : SystemElement). bytes_eq n x.start || bytes_eq n x.end) systems ≡ true → is_system k ≡ true
system_named c n i k [] here there good some = absurd (false≢true some)
system_named c n i k (x ∷ systems) here there good some =
    let first = or_parts (is_other is_row_start c x.start || is_other is_row_end c x.end) (list_any (λ (y : SystemElement). is_other is_row_start c y.start || is_other is_row_end c y.end) systems) good in
    let sides = or_parts (is_other is_row_start c x.start) (is_other is_row_end c x.end) first.0 in
    elim (or_cases (bytes_eq n x.start || bytes_eq n x.end) (list_any (λ (y : SystemElement). bytes_eq n y.start || bytes_eq n y.end) systems) some) [
      | inl one ↦ elim (or_cases (bytes_eq n x.start) (bytes_eq n x.end) one) [
        | inl start ↦ side_system is_row_start c n x.start i k start_system here there sides.0 start
        | inr end ↦ side_system is_row_end c n x.end i k end_system here there sides.1 end
      ]
      | inr more ↦ system_named c n i k systems here there first.1 more
    ]

period_named : (c : CreateTable) (n : Name) (i s e : ℕ) (name : Name) → own_place c n ≡ Some i → map (declared_period c) c.periods ≡ (name, Some s, Some e) ∷ []
    → list_any (λ (x : PeriodElement). bytes_eq n x.start || bytes_eq n x.end) c.periods ≡ ((i == s) || (i == e))
period_named c n i s e name here same =
    any_alike (declared_period c) (λ (q : Name × ℕ × ℕ). (q.0, Some q.1, Some q.2)) (λ (x : PeriodElement). bytes_eq n x.start || bytes_eq n x.end) (λ (q : Name × ℕ × ℕ). (i == q.1) || (i == q.2))
    (λ x q both.
    let start : own_place c x.start ≡ Some q.1 = ap (λ (w : Sides). w.1) both in
    let end : own_place c x.end ≡ Some q.2 = ap (λ (w : Sides). w.2) both in
    either
    (names_equal (λ (y : ColumnElement). y.name) c.columns n x.start i q.1 here start ∙ same_number q.1 i)
    (names_equal (λ (y : ColumnElement). y.name) c.columns n x.end i q.2 here end ∙ same_number q.2 i)) c.periods ((name, s, e) ∷ []) same
    ∙ or_false ((i == s) || (i == e))

tests_alike : (a b s h : Bool) → (s ≡ true → h ≡ true) → (a || b || s || h) ≡ not (not a && (not b && not h))
tests_alike true b s h gives = refl
tests_alike false true s h gives = refl
tests_alike false false true h gives = let is = gives refl in rw is refl
tests_alike false false false true gives = refl
tests_alike false false false false gives = refl

-- the column at a place, by its element
record ColumnAt (c : CreateTable) (d : TableDef) (i : ℕ) (x : ColumnElement) (y : Column) : Type 0 where
  here : own_place c x.name ≡ Some i
  there : declared_at (columns_of c) (Some i) ≡ Some y.kind
  system : is_some x.generated ≡ is_system y.kind

column_at : (tables : List TableDef) (c : CreateTable) (d : TableDef) (i : ℕ) (x : ColumnElement) (y : Column) → Defines tables c d → has_distinct_names d ≡ true
    → slice_get d.columns i ≡ Some y → declared_column x ≡ column_parts y → ColumnAt c d i x y
unfolding declared_at
column_at tables c d i x y defines distinct at same =
    record {
      here =
          own_placed c d x.name defines.columns
          ∙ ap (λ (q : Name × Option ColumnKind). def_place d q.0) same
          ∙ placed_there d i y distinct at;
      there =
          ap (λ (columns : List Column). option_map (λ (z : Column). z.kind) (slice_get columns i)) (columns_are tables c d defines)
          ∙ ap (option_map (λ (z : Column). z.kind)) at;
      system = generated_system x.kind x.generated y.kind (ap (λ (q : Name × Option ColumnKind). q.1) same);
    }

other_alike : (tables : List TableDef) (c : CreateTable) (d : TableDef) (i : ℕ) (x : ColumnElement) (y : Column) → Defines tables c d → has_bad_system_period c ≡ false
    → ColumnAt c d i x y → is_no_value_column c x ≡ not (is_value_column d (i, y))
unfolding is_no_value_column is_value_column has_bad_system_period
other_alike tables c d i x y defines good at =
    let periods = period_named c x.name i d.period.start d.period.end d.period.name at.here defines.period in
    let systems : Bool = list_any (λ (s : SystemElement). bytes_eq x.name s.start || bytes_eq x.name s.end) c.system_periods in
    ap₂ (λ (a b : Bool). a || systems || b) periods at.system
    ∙ tests_alike (i == d.period.start) (i == d.period.end) systems (is_system y.kind)
    (λ some. system_named c x.name i y.kind c.system_periods at.here at.there good some)

keyed_alike : (tables : List TableDef) (c : CreateTable) (d : TableDef) (i : ℕ) (name : Name) → Defines tables c d → own_place c name ≡ Some i → is_keyed c name ≡ is_keyed_place d i
unfolding is_keyed is_keyed_place
keyed_alike tables c d i name defines here =
    let keys : list_any (λ (x : KeyElement). list_any (bytes_eq name) x.columns) c.keys ≡ has_place d.key i =
    any_alike (declared_key c) (map Some) (λ (x : KeyElement). list_any (bytes_eq name) x.columns) (λ places. has_place places i)
    (λ x places e. keyed_same (λ (y : ColumnElement). y.name) c.columns name i x.columns places here e) c.keys (d.key ∷ []) defines.key
    ∙ or_false (has_place d.key i) in
    let references : list_any (λ (x : ReferenceElement). list_any (bytes_eq name) x.columns) c.references ≡ list_any (λ (r : Reference). has_place r.own i) d.references =
    any_alike (declared_reference tables c) reference_parts (λ (x : ReferenceElement). list_any (bytes_eq name) x.columns) (λ (r : Reference). has_place r.own i)
    (λ x r e. keyed_same (λ (y : ColumnElement). y.name) c.columns name i x.columns r.own here (reference_same tables c x r e).own) c.references d.references defines.references in
    either keys references

pub keys_alike : (tables : List TableDef) (c : CreateTable) (d : TableDef) → Defines tables c d → has_distinct_names d ≡ true → has_bad_system_period c ≡ false
    → keys_period_column c ≡ keys_other_column d
unfolding keys_period_column keys_other_column
keys_alike tables c d defines distinct good =
    any_numbered_alike declared_column column_parts (λ (x : ColumnElement). is_keyed c x.name && is_no_value_column c x) (λ (q : ℕ × Column). is_keyed_place d q.0 && not (is_value_column d q)) 0 c.columns d.columns defines.columns
    (λ i x y left right same.
    let at = column_at tables c d i x y defines distinct right same in
    let counted : i ≡ 0 + i = omega arith in
    ap₂ (λ (a b : Bool). a && b) (keyed_alike tables c d i x.name defines at.here) (other_alike tables c d i x y defines good at)
    ∙ ap (λ (n : ℕ). is_keyed_place d n && not (is_value_column d (n, y))) counted)

-- ==== the period and the references ====

pub dates_alike : (tables : List TableDef) (c : CreateTable) (d : TableDef) → Defines tables c d → has_bad_period c ≡ not (are_dates d.columns (Some d.period.start) (Some d.period.end))
unfolding has_bad_period
dates_alike tables c d defines =
    any_alike (declared_period c) (λ (s : Sides). s) (λ (x : PeriodElement). not (are_dates (columns_of c) (own_place c x.start) (own_place c x.end))) (λ (s : Sides). not (are_dates d.columns s.1 s.2))
    (λ x s e.
    ap (λ (columns : List Column). not (are_dates columns (own_place c x.start) (own_place c x.end))) (columns_are tables c d defines)
    ∙ ap (λ (q : Sides). not (are_dates d.columns q.1 q.2)) e) c.periods ((d.period.name, Some d.period.start, Some d.period.end) ∷ []) defines.period
    ∙ or_false (not (are_dates d.columns (Some d.period.start) (Some d.period.end)))

pub no_keys_alike : (tables : List TableDef) (c : CreateTable) (references : List Reference) → map (declared_reference tables c) c.references ≡ map reference_parts references
    → references_no_key tables c ≡ list_any (refers_to_no_key tables) references
unfolding references_no_key
no_keys_alike tables c references same =
    any_alike (declared_reference tables c) reference_parts (λ (x : ReferenceElement). names_no_key tables x) (refers_to_no_key tables) (no_key_same tables c) c.references references same

pub other_kinds_alike : (tables : List TableDef) (c : CreateTable) (references : List Reference) → map (declared_reference tables c) c.references ≡ map reference_parts references
    → references_other_kind tables c ≡ list_any (refers_to_other_kind tables (columns_of c)) references
unfolding references_other_kind
other_kinds_alike tables c references same =
    any_alike (declared_reference tables c) reference_parts (λ (x : ReferenceElement). names_other_kind tables c x) (refers_to_other_kind tables (columns_of c)) (other_kind_same tables c) c.references references same
