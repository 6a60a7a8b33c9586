-- The CREATE that spells a definition that passes the tests gives it.
use Rattle.std.proofs.Common.{◌≡◌, ◌∷◌, ◌&&◌, ◌∙◌, ℕ, zero, suc, Bool, true, false, not, List, [], Option, None, Some, ap, length, map, nat_lt, refl, sym}
use Rattle.std.specs.Prelude.{◌==◌, slice_get, unwrap_or}
use Rattle.std.specs.List.{list_all, list_any}
use Rattle.std.specs.Option.{option_and_then, option_map}
use Rattle.std.proofs.lemmas.Bool.{and_from, and_parts, eqb-true, false≢true, not-false, not-true, or_parts}
use Rattle.std.proofs.lemmas.Option.{same_Some}
use Rattle.sql_statements.specs.declared.create.ReferenceElement.{ReferenceElement}
use Rattle.catalog_core.proofs.lemmas.bytes.DefinitionParts.{all_both, parts, reference_parts as parts_of}
use Rattle.catalog_core.proofs.lemmas.create.Alike.{own_placed}
use Rattle.catalog_core.proofs.lemmas.create.PlacedNames.{any_mapped, key_within, none_where, place_named, places_named}
use Rattle.catalog_core.proofs.lemmas.create.Spelling.{create_of, named, reference_to, spelled_column, spelled_reference, spelled_side, spelled_type}
use Rattle.catalog_core.specs.create.Definition.{Defines, column_parts, declared_column, declared_kind, declared_reference, own_place, parent_of, reference_parts}
use Rattle.catalog_core.specs.create.Places.{are_key_places, has_place, refers_to_no_key}
use Rattle.catalog_core.specs.create.PlacedTests.{has_parent}
use Rattle.catalog_core.specs.table.IsDefinition.{are_places, is_reference}
use Rattle.catalog_core.specs.table.Naming.{passes}
use Rattle.catalog_core.specs.table.TableWords.{def_place, has_distinct_names, number_of, table_of, table_of_name}
use Rattle.catalog_core.specs.declared.table.Column.{Column}
use Rattle.catalog_core.specs.declared.table.ColumnKind.{ColumnKind}
use Rattle.catalog_core.specs.declared.table.ColumnKind.TheVariants.{Integer, Varchar, Date, RowStart, RowEnd}
use Rattle.catalog_core.specs.declared.table.Reference.{Reference}
use Rattle.catalog_core.specs.declared.table.TableDef.{TableDef}
use Rattle.catalog_core.proofs.lemmas.create.Passed.{Passed, distinct_names}

-- ==== the parents of a definition that passes ====

passes_some : {X : Type 0} (p : X → Bool) (o : Option X) → passes p o ≡ true → (x : X) × (o ≡ Some x) × (p x ≡ true)
passes_some p None some = absurd (false≢true some)
passes_some p (Some x) some = (x, refl, some)

all_at : {X : Type 0} (p : X → Bool) (xs : List X) (i : ℕ) (x : X) → list_all p xs ≡ true → slice_get xs i ≡ Some x → p x ≡ true
all_at p [] i x all there = absurd cc
all_at p (y ∷ ys) zero x all there = ap p (sym (same_Some y x there)) ∙ (and_parts (p y) (list_all p ys) all).0
all_at p (y ∷ ys) (suc i) x all there = all_at p ys i x (and_parts (p y) (list_all p ys) all).1 there

table_at : (p : TableDef → Bool) (tables : List TableDef) (n : ℕ) (t : TableDef) → list_all p tables ≡ true → table_of tables n ≡ Some t → p t ≡ true
table_at p tables zero t all there = absurd cc
table_at p tables (suc n) t all there = all_at p tables n t all there

-- a reference of the definition whose names are found
abbrev pub fits : List TableDef → TableDef → Reference → Bool
fits tables d r = is_reference (length d.columns) r && (has_parent tables r && not (refers_to_no_key tables r))

-- the parent of a reference, and what is known of it
pub record HasParent (tables : List TableDef) (d : TableDef) (r : Reference) : Type 0 where
  pub table : TableDef
  pub there : table_of tables r.parent ≡ Some table
  pub number : number_of tables table.name ≡ Some r.parent
  pub distinct : has_distinct_names table ≡ true
  pub own : are_places (length d.columns) r.own ≡ true
  pub keys : are_places (length table.columns) r.keys ≡ true
  pub spelled : spelled_reference tables d r ≡ reference_to d table r
  pub found : parent_of tables (reference_to d table r) ≡ Some table

parent_fit : (tables : List TableDef) (d : TableDef) (r : Reference) → list_all has_distinct_names tables ≡ true → fits tables d r ≡ true → HasParent tables d r
unfolding has_parent refers_to_no_key are_key_places table_of_name
parent_fit tables d r distinct fit =
    let a = and_parts (is_reference (length d.columns) r) (has_parent tables r && not (refers_to_no_key tables r)) fit in
    let b = and_parts (has_parent tables r) (not (refers_to_no_key tables r)) a.1 in
    let found = passes_some (λ (u : TableDef). passes (λ n. n == r.parent) (number_of tables u.name)) (table_of tables r.parent) b.0 in
    let t : TableDef = found.0 in
    let first = passes_some (λ n. n == r.parent) (number_of tables t.name) found.2 in
    let number : number_of tables t.name ≡ Some r.parent = first.1 ∙ ap (λ (n : ℕ). Some n) (eqb-true first.0 r.parent first.2) in
    let reference = parts_of (length d.columns) r a.0 in
    let keyed : not (are_key_places t r.keys) ≡ false =
    sym (ap (passes (λ (u : TableDef). not (are_key_places u r.keys))) found.1) ∙ not-true (refers_to_no_key tables r) b.1 in
    let among = and_parts (list_all (has_place t.key) r.keys) (list_all (has_place r.keys) t.key) (not-false (are_key_places t r.keys) keyed) in
    record {
      table = t;
      there = found.1;
      number = number;
      distinct = table_at has_distinct_names tables r.parent t distinct found.1;
      own = reference.own;
      keys = key_within t (length t.columns) r.keys (parts t.columns t.period t.key t.references t.sound).places among.0;
      spelled = ap (λ (o : Option TableDef). reference_to d (unwrap_or o d) r) found.1;
      found = ap (option_and_then (table_of tables)) number ∙ found.1;
    }

-- all references fit
pub all_fit : (tables : List TableDef) (d : TableDef) → Passed tables d → list_all (fits tables d) d.references ≡ true
all_fit tables d passed =
    all_both (is_reference (length d.columns)) (λ r. has_parent tables r && not (refers_to_no_key tables r)) d.references (parts d.columns d.period d.key d.references d.sound).referring
    (all_both (has_parent tables) (λ r. not (refers_to_no_key tables r)) d.references passed.parents (all_not (refers_to_no_key tables) d.references passed.keys))
  where
    all_not : {X : Type 0} (p : X → Bool) (xs : List X) → list_any p xs ≡ false → list_all (λ x. not (p x)) xs ≡ true
    all_not p [] none = refl
    all_not p (x ∷ xs) none =
        let both = or_parts (p x) (list_any p xs) none in
        and_from (not (p x)) (list_all (λ y. not (p y)) xs) (ap not both.0) (all_not p xs both.1)

-- a test of all references of the CREATE that spells the definition, by a test of each
pub each_reference : (tables : List TableDef) (d : TableDef) (p : ReferenceElement → Bool) → list_all has_distinct_names tables ≡ true → Passed tables d
    → ((r : Reference) (has : HasParent tables d r) → p (reference_to d has.table r) ≡ false)
    → list_any p (create_of tables d).references ≡ false
each_reference tables d p distinct passed none =
    any_mapped p (spelled_reference tables d) d.references
    ∙ none_where (fits tables d) (λ r. p (spelled_reference tables d r))
    (λ r fit. let has = parent_fit tables d r distinct fit in ap p has.spelled ∙ none r has) d.references (all_fit tables d passed)

-- ==== the CREATE that spells a definition gives it ====

kind_declared : (k : ColumnKind) → declared_kind (spelled_type k) (spelled_side k) ≡ Some k
unfolding declared_kind
kind_declared Integer = refl
kind_declared (Varchar n) = refl
kind_declared Date = refl
kind_declared (RowStart p) = refl
kind_declared (RowEnd p) = refl

pub columns_given : (xs : List Column) → map declared_column (map spelled_column xs) ≡ map column_parts xs
columns_given [] = refl
columns_given (x ∷ xs) = rw (kind_declared x.kind, columns_given xs) refl

pub own_placed_at : (tables : List TableDef) (d : TableDef) (i : ℕ) → has_distinct_names d ≡ true → nat_lt i (length d.columns) ≡ true → own_place (create_of tables d) (named d.name d i) ≡ Some i
own_placed_at tables d i distinct here = own_placed (create_of tables d) d (named d.name d i) (columns_given d.columns) ∙ place_named d.name d i distinct here

own_placed_all : (tables : List TableDef) (d : TableDef) (places : List ℕ) → has_distinct_names d ≡ true → are_places (length d.columns) places ≡ true
    → map (own_place (create_of tables d)) (map (named d.name d) places) ≡ map Some places
own_placed_all tables d [] distinct within = refl
own_placed_all tables d (place ∷ places) distinct within =
    let both = and_parts (nat_lt place (length d.columns)) (are_places (length d.columns) places) within in
    rw (own_placed_at tables d place distinct both.0, own_placed_all tables d places distinct both.1) refl

reference_given : (tables : List TableDef) (d : TableDef) (r : Reference) → has_distinct_names d ≡ true → (has : HasParent tables d r)
    → declared_reference tables (create_of tables d) (reference_to d has.table r) ≡ reference_parts r
unfolding declared_reference
reference_given tables d r distinct has =
    ap (λ (o : Option TableDef). (number_of tables has.table.name, map (own_place (create_of tables d)) (map (named d.name d) r.own), option_map (λ (u : TableDef). map (def_place u) (map (named d.name has.table) r.keys)) o)) has.found
    ∙ rw (has.number, own_placed_all tables d r.own distinct has.own, places_named d.name has.table r.keys has.distinct has.keys) refl

references_given : (tables : List TableDef) (d : TableDef) (references : List Reference) → list_all has_distinct_names tables ≡ true → has_distinct_names d ≡ true → list_all (fits tables d) references ≡ true
    → map (declared_reference tables (create_of tables d)) (map (spelled_reference tables d) references) ≡ map reference_parts references
references_given tables d [] all distinct fit = refl
references_given tables d (r ∷ references) all distinct fit =
    let both = and_parts (fits tables d r) (list_all (fits tables d) references) fit in
    let has = parent_fit tables d r all both.0 in
    rw (ap (declared_reference tables (create_of tables d)) has.spelled ∙ reference_given tables d r distinct has, references_given tables d references all distinct both.1) refl

pub spells : (tables : List TableDef) (d : TableDef) → list_all has_distinct_names tables ≡ true → Passed tables d → Defines tables (create_of tables d) d
spells tables d all passed =
    let sounds = parts d.columns d.period d.key d.references d.sound in
    let distinct = distinct_names d passed.once in
    record {
      name = refl;
      columns = columns_given d.columns;
      period = rw (own_placed_at tables d d.period.start distinct sounds.start, own_placed_at tables d d.period.end distinct sounds.end) refl;
      key = rw (own_placed_all tables d d.key distinct sounds.places) refl;
      references = references_given tables d d.references all distinct (all_fit tables d passed);
    }
