-- A CREATE declares by names what the definition that it gives has by places.
use Rattle.std.proofs.Common.{◌≡◌, ◌+◌, ◌∷◌, ◌||◌, ◌∙◌, ℕ, suc, Bool, true, false, not, List, [], Option, None, Some, arith, ap, ap₂, bytes_eq, cond, count_by, get_or, length, map, nat_lt, refl, sym}
use Rattle.std.specs.Prelude.{◌==◌, filter_map, is_some, slice_get}
use Rattle.std.specs.List.{cons_option, enumerate_from, list_any}
use Rattle.std.specs.Option.{option_and_then, option_map}
use Rattle.std.proofs.lemmas.Bool.{eq-eqb, eqb-true}
use Rattle.std.proofs.lemmas.List.Quantifiers.{position-Some}
use Rattle.std.proofs.lemmas.List.Sums.{sum_by-cons}
use Rattle.std.proofs.lemmas.Option.{same_Some, slice_get-get_or}
use Rattle.std.proofs.lemmas.Slice.Eq.{bytes_eq-Decides}
use Rattle.sql_statements.specs.declared.create.ColumnElement.{ColumnElement}
use Rattle.sql_statements.specs.declared.create.CreateTable.{CreateTable}
use Rattle.sql_statements.specs.declared.create.Generated.{Generated}
use Rattle.sql_statements.specs.declared.create.Generated.TheVariants.{Start, End}
use Rattle.sql_statements.specs.declared.create.ReferenceElement.{ReferenceElement}
use Rattle.sql_statements.specs.declared.create.TypeName.{TypeName}
use Rattle.sql_statements.specs.declared.create.TypeName.TheVariants as type_name
use Rattle.catalog_core.proofs.lemmas.create.Built.{mapped_lengths}
use Rattle.catalog_core.proofs.lemmas.create.Spelling.{name_at, name_or}
use Rattle.catalog_core.specs.create.Creation.{names_no_key, names_other_kind}
use Rattle.catalog_core.specs.create.Definition.{Numbers, column_of, column_parts, column_with, columns_of, declared_column, declared_kind, declared_reference, own_place, own_places, parent_of, parent_places, reference_parts}
use Rattle.catalog_core.specs.create.Places.{are_key_places, has_place, have_two_kinds, place_count, refers_to_no_key, refers_to_other_kind, repeats_place}
use Rattle.catalog_core.specs.table.Matches.{is_matching}
use Rattle.catalog_core.specs.table.Naming.{Name, matches_among, passes, place_among, repeats}
use Rattle.catalog_core.specs.table.TableWords.{def_place, is_system, number_of, table_of, table_of_name}
use Rattle.catalog_core.specs.declared.table.Column.{Column}
use Rattle.catalog_core.specs.declared.table.ColumnKind.{ColumnKind}
use Rattle.catalog_core.specs.declared.table.ColumnKind.TheVariants.{Integer, Varchar, Date, RowStart, RowEnd}
use Rattle.catalog_core.specs.declared.table.Reference.{Reference}
use Rattle.catalog_core.specs.declared.table.TableDef.{TableDef}

-- ==== two lists that are mapped to one list ====

pub both_ways : (a b : Bool) → (a ≡ true → b ≡ true) → (b ≡ true → a ≡ true) → a ≡ b
both_ways true b there back = sym (there refl)
both_ways false true there back = back refl
both_ways false false there back = refl

pub any_alike : {X Y Z : Type 0} (f : X → Z) (g : Y → Z) (p : X → Bool) (q : Y → Bool) → ((x : X) (y : Y) → f x ≡ g y → p x ≡ q y) → (xs : List X) (ys : List Y) → map f xs ≡ map g ys
    → list_any p xs ≡ list_any q ys
any_alike f g p q alike [] [] same = refl
any_alike f g p q alike [] (y ∷ ys) same = cc
any_alike f g p q alike (x ∷ xs) [] same = cc
any_alike f g p q alike (x ∷ xs) (y ∷ ys) same =
    let first : f x ≡ g y = cc in
    let later : map f xs ≡ map g ys = cc in
    rw (alike x y first, any_alike f g p q alike xs ys later) refl

-- a count begins with the first
pub counted_cons : {X : Type 0} (p : X → Bool) (x : X) (xs : List X) → count_by p (x ∷ xs) ≡ cond (p x) 1 0 + count_by p xs
counted_cons p x xs = sum_by-cons (λ y. cond (p y) 1 0) x xs

pub counts_alike : {X Y Z : Type 0} (f : X → Z) (g : Y → Z) (p : X → Bool) (q : Y → Bool) → ((x : X) (y : Y) → f x ≡ g y → p x ≡ q y) → (xs : List X) (ys : List Y) → map f xs ≡ map g ys
    → count_by p xs ≡ count_by q ys
counts_alike f g p q alike [] [] same = refl
counts_alike f g p q alike [] (y ∷ ys) same = cc
counts_alike f g p q alike (x ∷ xs) [] same = cc
counts_alike f g p q alike (x ∷ xs) (y ∷ ys) same =
    let first : f x ≡ g y = cc in
    let later : map f xs ≡ map g ys = cc in
    counted_cons p x xs ∙ ap₂ (λ (b : Bool) (n : ℕ). cond b 1 0 + n) (alike x y first) (counts_alike f g p q alike xs ys later) ∙ sym (counted_cons q y ys)

-- a test of the elements, each with its place
pub any_numbered_alike : {X Y Z : Type 0} (f : X → Z) (g : Y → Z) (p : X → Bool) (q : ℕ × Y → Bool) (k : ℕ) (xs : List X) (ys : List Y) → map f xs ≡ map g ys
    → ((i : ℕ) (x : X) (y : Y) → slice_get xs i ≡ Some x → slice_get ys i ≡ Some y → f x ≡ g y → p x ≡ q (k + i, y)) → list_any p xs ≡ list_any q (enumerate_from k ys)
any_numbered_alike f g p q k [] [] same alike = refl
any_numbered_alike f g p q k [] (y ∷ ys) same alike = cc
any_numbered_alike f g p q k (x ∷ xs) [] same alike = cc
any_numbered_alike f g p q k (x ∷ xs) (y ∷ ys) same alike =
    let first : f x ≡ g y = cc in
    let later : map f xs ≡ map g ys = cc in
    let here : k + 0 ≡ k = omega arith in
    let rest = any_numbered_alike f g p q (k + 1) xs ys later
    (λ i z w left right both.
    let next : k + suc i ≡ k + 1 + i = omega arith in
    alike (suc i) z w left right both ∙ ap (λ (n : ℕ). q (n, w)) next) in
    ap₂ (λ (a b : Bool). a || b) (alike 0 x y refl refl first ∙ ap (λ (n : ℕ). q (n, y)) here) rest

-- the values of all that have one
pub places_same : {X : Type 0} (f : X → Option ℕ) (xs : List X) (places : List ℕ) → map f xs ≡ map Some places → filter_map f xs ≡ places
places_same f [] [] same = refl
places_same f [] (place ∷ places) same = cc
places_same f (x ∷ xs) [] same = cc
places_same f (x ∷ xs) (place ∷ places) same =
    let first : f x ≡ Some place = cc in
    let later : map f xs ≡ map Some places = cc in
    ap (λ (o : Option ℕ). cons_option o (filter_map f xs)) first ∙ ap (λ (ps : List ℕ). place ∷ ps) (places_same f xs places later)

-- ==== names and their places ====

-- a name belongs to the element at its place
pub name_back : {X : Type 0} (named : X → Name) (other : Name) (xs : List X) (name : Name) (place : ℕ) → place_among named xs name ≡ Some place → name ≡ name_at named other xs place
unfolding place_among
name_back named other [] name place there = cc
name_back {X} named other (x ∷ xs) name place there =
    let p : X → Bool = λ y. bytes_eq name (named y) in
    let is = position-Some p (x ∷ xs) place x there in
    (bytes_eq-Decides name (named (get_or (x ∷ xs) place x))).0 is.1 ∙ ap (name_or named other) (sym (slice_get-get_or (x ∷ xs) place x is.0))

-- names are equal if their places are
pub names_equal : {X : Type 0} (named : X → Name) (xs : List X) (n m : Name) (i k : ℕ) → place_among named xs n ≡ Some i → place_among named xs m ≡ Some k → bytes_eq n m ≡ (k == i)
names_equal named xs n m i k first second =
    both_ways (bytes_eq n m) (k == i)
    (λ e.
    let same : n ≡ m = (bytes_eq-Decides n m).0 e in
    eq-eqb k i (same_Some k i (sym second ∙ ap (place_among named xs) (sym same) ∙ first)))
    (λ e.
    (bytes_eq-Decides n m).1 (name_back named n xs n i first ∙ ap (name_at named n xs) (sym (eqb-true k i e)) ∙ sym (name_back named n xs m k second)))

-- the names of some of the elements, by their places
pub repeated_same : {X : Type 0} (named : X → Name) (xs : List X) (names : List Name) (places : List ℕ) → map (place_among named xs) names ≡ map Some places → repeats names ≡ repeats_place places
unfolding repeats repeats_place matches_among is_matching
repeated_same named xs names places same =
    any_alike (place_among named xs) Some (λ name. nat_lt 1 (count_by (λ (x : Name). bytes_eq name x) names)) (λ place. nat_lt 1 (place_count place places))
    (λ n i here. ap (nat_lt 1) (counts_alike (place_among named xs) Some (λ m. bytes_eq n m) (λ k. k == i) (λ m k there. names_equal named xs n m i k here there) names places same)) names places same

pub keyed_same : {X : Type 0} (named : X → Name) (xs : List X) (n : Name) (i : ℕ) (names : List Name) (places : List ℕ) → place_among named xs n ≡ Some i → map (place_among named xs) names ≡ map Some places
    → list_any (bytes_eq n) names ≡ has_place places i
unfolding has_place
keyed_same named xs n i names places here same =
    any_alike (place_among named xs) Some (bytes_eq n) (λ k. k == i) (λ m k there. names_equal named xs n m i k here there) names places same

-- ==== columns ====

pub column_same : (x : ColumnElement) (y : Column) → declared_column x ≡ column_parts y → column_of x ≡ Some y
column_same x y same =
    ap (option_map (column_with x.name)) (ap (λ (q : Name × Option ColumnKind). q.1) same)
    ∙ ap (λ (n : Name). Some (column_with n y.kind)) (ap (λ (q : Name × Option ColumnKind). q.0) same)

pub columns_same : (xs : List ColumnElement) (ys : List Column) → map declared_column xs ≡ map column_parts ys → filter_map column_of xs ≡ ys
columns_same [] [] same = refl
columns_same [] (y ∷ ys) same = cc
columns_same (x ∷ xs) [] same = cc
columns_same (x ∷ xs) (y ∷ ys) same =
    let first : declared_column x ≡ column_parts y = cc in
    let later : map declared_column xs ≡ map column_parts ys = cc in
    ap (λ (o : Option Column). cons_option o (filter_map column_of xs)) (column_same x y first) ∙ ap (λ (zs : List Column). y ∷ zs) (columns_same xs ys later)

-- a column is generated if it is a system column
pub generated_system : (type : TypeName) (side : Option Generated) (k : ColumnKind) → declared_kind type side ≡ Some k → is_some side ≡ is_system k
unfolding declared_kind
generated_system type_name.Integer None k e = ap is_system (same_Some Integer k e)
generated_system type_name.Integer (Some side) k e = absurd cc
generated_system type_name.Date None k e = ap is_system (same_Some Date k e)
generated_system type_name.Date (Some side) k e = absurd cc
generated_system (type_name.Varchar n) None k e = ap is_system (same_Some (Varchar n) k e)
generated_system (type_name.Varchar n) (Some side) k e = absurd cc
generated_system (type_name.Timestamp p) None k e = absurd cc
generated_system (type_name.Timestamp p) (Some Start) k e = ap is_system (same_Some (RowStart p) k e)
generated_system (type_name.Timestamp p) (Some End) k e = ap is_system (same_Some (RowEnd p) k e)

-- ==== references ====

-- a reference by its places, and its parent
pub record SameReference (tables : List TableDef) (c : CreateTable) (x : ReferenceElement) (r : Reference) : Type 0 where
  pub parent : TableDef
  pub number : number_of tables x.parent ≡ Some r.parent
  pub there : table_of tables r.parent ≡ Some parent
  pub found : parent_of tables x ≡ Some parent
  pub own : map (own_place c) x.columns ≡ map Some r.own
  pub keys : map (def_place parent) x.parent_columns ≡ map Some r.keys

pub reference_same : (tables : List TableDef) (c : CreateTable) (x : ReferenceElement) (r : Reference) → declared_reference tables c x ≡ reference_parts r → SameReference tables c x r
unfolding declared_reference table_of_name
reference_same tables c x r same =
    let number : number_of tables x.parent ≡ Some r.parent = ap (λ (q : Numbers). q.0) same in
    let found : parent_of tables x ≡ table_of tables r.parent = ap (option_and_then (table_of tables)) number in
    let keyed : option_map (λ (t : TableDef). map (def_place t) x.parent_columns) (table_of tables r.parent) ≡ Some (map Some r.keys) =
    sym (ap (option_map (λ (t : TableDef). map (def_place t) x.parent_columns)) found) ∙ ap (λ (q : Numbers). q.2) same in
    (elim (table_of tables r.parent) as (λ o. table_of tables r.parent ≡ o → option_map (λ (t : TableDef). map (def_place t) x.parent_columns) o ≡ Some (map Some r.keys) → SameReference tables c x r) [
      | None ↦ (λ e k. absurd cc)
      | Some t ↦ (λ e k.
          record {
            parent = t;
            number = number;
            there = e;
            found = found ∙ e;
            own = ap (λ (q : Numbers). q.1) same;
            keys = same_Some (map (def_place t) x.parent_columns) (map Some r.keys) k;
          })
    ]) refl keyed

pub repeats_same : (tables : List TableDef) (c : CreateTable) (x : ReferenceElement) (r : Reference) → declared_reference tables c x ≡ reference_parts r
    → (repeats x.columns || repeats x.parent_columns) ≡ (repeats_place r.own || repeats_place r.keys)
repeats_same tables c x r same =
    let is = reference_same tables c x r same in
    ap₂ (λ (a b : Bool). a || b) (repeated_same (λ (y : ColumnElement). y.name) c.columns x.columns r.own is.own) (repeated_same (λ (y : Column). y.name) is.parent.columns x.parent_columns r.keys is.keys)

pub no_key_same : (tables : List TableDef) (c : CreateTable) (x : ReferenceElement) (r : Reference) → declared_reference tables c x ≡ reference_parts r → names_no_key tables x ≡ refers_to_no_key tables r
unfolding names_no_key refers_to_no_key
no_key_same tables c x r same =
    let is = reference_same tables c x r same in
    ap (passes (λ (t : TableDef). not (are_key_places t (parent_places t x)))) is.found
    ∙ ap (λ (ps : List ℕ). not (are_key_places is.parent ps)) (places_same (def_place is.parent) x.parent_columns r.keys is.keys)
    ∙ sym (ap (passes (λ (t : TableDef). not (are_key_places t r.keys))) is.there)

pub other_kind_same : (tables : List TableDef) (c : CreateTable) (x : ReferenceElement) (r : Reference) → declared_reference tables c x ≡ reference_parts r
    → names_other_kind tables c x ≡ refers_to_other_kind tables (columns_of c) r
unfolding names_other_kind refers_to_other_kind
other_kind_same tables c x r same =
    let is = reference_same tables c x r same in
    ap (passes (λ (t : TableDef). have_two_kinds (columns_of c) t.columns (own_places c x.columns) (parent_places t x))) is.found
    ∙ ap₂ (have_two_kinds (columns_of c) is.parent.columns) (places_same (own_place c) x.columns r.own is.own) (places_same (def_place is.parent) x.parent_columns r.keys is.keys)
    ∙ sym (ap (passes (λ (t : TableDef). have_two_kinds (columns_of c) t.columns r.own r.keys)) is.there)

pub lengths_same : (tables : List TableDef) (c : CreateTable) (x : ReferenceElement) (r : Reference) → declared_reference tables c x ≡ reference_parts r
    → (length x.columns == length x.parent_columns) ≡ (length r.own == length r.keys)
lengths_same tables c x r same =
    let is = reference_same tables c x r same in
    ap₂ (λ (n m : ℕ). n == m) (mapped_lengths (own_place c) Some x.columns r.own is.own) (mapped_lengths (def_place is.parent) Some x.parent_columns r.keys is.keys)
