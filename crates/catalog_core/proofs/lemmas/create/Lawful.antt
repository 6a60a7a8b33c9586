-- A definition that passes the tests is lawful: no condition of the CREATE that spells it holds.
use Rattle.std.proofs.Common.{◌≡◌, ◌<◌, ◌+◌, ◌∷◌, ◌&&◌, ◌||◌, ◌∙◌, ℕ, suc, Bool, true, false, not, List, [], Option, None, Some, arith, ap, bytes_eq, cond, count_by, length, lit≤, map, nat_le, nat_lt, refl}
use Rattle.std.specs.Prelude.{◌==◌, is_none, is_some, slice_get}
use Rattle.std.specs.List.{list_all, list_any, position_or_len}
use Rattle.std.specs.Option.{option_map}
use Rattle.std.proofs.lemmas.Bool.{and_parts, eqb-true}
use Rattle.std.proofs.lemmas.Bool.Decides.{nat_tests}
use Rattle.std.proofs.lemmas.Option.{slice_get_within}
use Rattle.std.proofs.lemmas.Slice.Eq.{bytes_eq-Decides}
use Rattle.period_core.specs.Leasts.{NoneApplies}
use Rattle.sql_statements.specs.declared.create.ColumnElement.{ColumnElement}
use Rattle.sql_statements.specs.declared.create.CreateTable.{CreateTable}
use Rattle.sql_statements.specs.declared.create.ReferenceElement.{ReferenceElement}
use Rattle.catalog_core.proofs.lemmas.bytes.DefinitionParts.{parts, reference_parts as parts_of}
use Rattle.catalog_core.proofs.lemmas.create.Alike.{columns_are, dates_alike, keys_alike, no_keys_alike, other_kinds_alike, own_matched, period_counted, repeats_alike}
use Rattle.catalog_core.proofs.lemmas.create.Declared.{any_alike, counted_cons, lengths_same}
use Rattle.catalog_core.proofs.lemmas.create.PlacedNames.{any_mapped, name_matches, none_match, none_where}
use Rattle.catalog_core.proofs.lemmas.create.Spelling.{create_of, first_of, named, reference_to, spelled_column, spelled_side, spelled_type}
use Rattle.catalog_core.proofs.lemmas.judged.Least.{none_first}
use Rattle.catalog_core.specs.create.Creation.{create_conditions, exceeds_limits, has_bad_column, has_bad_period, has_bad_system_period, has_other_period, has_unequal_lists, is_ambiguous, is_bad_definition, is_bad_type, is_other, is_used_otherwise, keys_period_column, lacks_name, lacks_one_of_each, lacks_parent, lacks_period, names_other_period, own_matches, period_matches, references_no_key, references_other_kind, repeats_name, some_match, some_own_match, some_parent_match}
use Rattle.catalog_core.specs.create.Definition.{Defines, columns_of, declared_reference, parent_of, reference_parts}
use Rattle.catalog_core.specs.create.Lawful.{IsLawful}
use Rattle.catalog_core.specs.create.Places.{declared_at, has_system_columns, is_row_end, is_row_start, refers_to_other_kind}
use Rattle.catalog_core.specs.create.PlacedTests.{is_within_limits, passes_all}
use Rattle.catalog_core.specs.RefusalConditions.{Holds}
use Rattle.catalog_core.specs.table.IsDefinition.{are_places, is_kind, is_reference}
use Rattle.catalog_core.specs.table.Matches.{is_matching}
use Rattle.catalog_core.specs.table.Naming.{Name, passes, some_match_among}
use Rattle.catalog_core.specs.table.TableWords.{has_distinct_names, some_def_match}
use Rattle.catalog_core.specs.declared.table.match_counts.MatchCount.{MatchCount}
use Rattle.catalog_core.specs.declared.table.match_counts.MatchCount.TheVariants.{Zero, Many}
use Rattle.catalog_core.specs.declared.table.Column.{Column}
use Rattle.catalog_core.specs.declared.table.ColumnKind.{ColumnKind}
use Rattle.catalog_core.specs.declared.table.ColumnKind.TheVariants.{Integer, Varchar, Date, RowStart, RowEnd}
use Rattle.catalog_core.specs.declared.table.Reference.{Reference}
use Rattle.catalog_core.specs.declared.table.TableDef.{TableDef}
use Rattle.catalog_core.proofs.lemmas.create.Passed.{Passed, all_passed, distinct_names}
use Rattle.catalog_core.proofs.lemmas.create.Given.{limits_alike}
use Rattle.catalog_core.proofs.lemmas.create.Spelled.{columns_given, each_reference, own_placed_at, spells}

-- ==== no condition of that CREATE holds ====

few_of : (n m k : ℕ) → (nat_lt n 64 && (nat_le m 32 && nat_le k 8)) ≡ true → (nat_le 64 n || nat_lt 32 m || nat_lt 8 k) ≡ false
few_of n m k e =
    let a = and_parts (nat_lt n 64) (nat_le m 32 && nat_le k 8) e in
    let b = and_parts (nat_le m 32) (nat_le k 8) a.1 in
    let first : nat_le 64 n ≡ false = (let h = a.0 in grind (arith, nat_tests)) in
    let second : nat_lt 32 m ≡ false = (let h = b.0 in grind (arith, nat_tests)) in
    let third : nat_lt 8 k ≡ false = (let h = b.1 in grind (arith, nat_tests)) in
    rw (first, second, third) refl

-- the first column of a kind that one has
record FirstAt (test : ColumnKind → Bool) (xs : List Column) : Type 0 where
  column : Column
  there : slice_get xs (position_or_len (λ (x : Column). test x.kind) xs) ≡ Some column
  passes_test : test column.kind ≡ true

first_later : (test : ColumnKind → Bool) (x : Column) (xs : List Column) → test x.kind ≡ false → FirstAt test xs → FirstAt test (x ∷ xs)
first_later test x xs other more =
    let place : ℕ = position_or_len (λ (y : Column). test y.kind) xs in
    let next : 1 + place ≡ suc place = omega arith in
    record {
      column = more.column;
      there = ap (slice_get (x ∷ xs)) (ap (λ (b : Bool). cond (not b) (1 + place) 0) other ∙ next) ∙ more.there;
      passes_test = more.passes_test;
    }

first_at : (test : ColumnKind → Bool) (xs : List Column) → 0 < count_by (λ (x : Column). test x.kind) xs → FirstAt test xs
first_at test [] some = absurd (omega (arith, some))
first_at test (x ∷ xs) some =
    let p : Column → Bool = λ y. test y.kind in
    let counted = counted_cons p x xs in
    (elim (test x.kind) as (λ b. test x.kind ≡ b → 0 < cond b 1 0 + count_by p xs → FirstAt test (x ∷ xs)) [
      | true ↦ (λ e s. record { column = x; there = rw e refl; passes_test = e })
      | false ↦ (λ e s. first_later test x xs e (first_at test xs (omega (arith, s))))
    ]) refl (omega (arith, some, counted))

one_is : (n : ℕ) → (n == 1) ≡ true → 0 < n
one_is n e = let same = eqb-true n 1 e in omega (arith, same)

record HasSystem (d : TableDef) : Type 0 where
  start : FirstAt is_row_start d.columns
  end : FirstAt is_row_end d.columns

system_at : (d : TableDef) → has_system_columns d.columns ≡ true → HasSystem d
unfolding has_system_columns
system_at d systems =
    let starts : ℕ = count_by (λ (x : Column). is_row_start x.kind) d.columns in
    let ends : ℕ = count_by (λ (x : Column). is_row_end x.kind) d.columns in
    let both = and_parts (starts == 1) (ends == 1) systems in
    record { start = first_at is_row_start d.columns (one_is starts both.0); end = first_at is_row_end d.columns (one_is ends both.1) }

first_within : (test : ColumnKind → Bool) (d : TableDef) → FirstAt test d.columns → nat_lt (first_of test d) (length d.columns) ≡ true
first_within test d at = let here = slice_get_within d.columns (first_of test d) at.column at.there in grind (arith, nat_tests)

system_kind : (test : ColumnKind → Bool) (tables : List TableDef) (d : TableDef) → Defines tables (create_of tables d) d → has_distinct_names d ≡ true → FirstAt test d.columns
    → is_other test (create_of tables d) (named d.name d (first_of test d)) ≡ false
unfolding declared_at
system_kind test tables d defines distinct at =
    let c : CreateTable = create_of tables d in
    let found : declared_at d.columns (Some (first_of test d)) ≡ Some at.column.kind = ap (option_map (λ (x : Column). x.kind)) at.there in
    ap (λ (o : Option ℕ). not (passes test (declared_at (columns_of c) o))) (own_placed_at tables d (first_of test d) distinct (first_within test d at))
    ∙ ap (λ (xs : List Column). not (passes test (declared_at xs (Some (first_of test d))))) (columns_are tables c d defines)
    ∙ ap (λ (o : Option ColumnKind). not (passes test o)) found
    ∙ ap not at.passes_test

own_match : (tables : List TableDef) (d : TableDef) (w : MatchCount) (i : ℕ) → has_distinct_names d ≡ true → nat_lt i (length d.columns) ≡ true
    → is_matching w (own_matches (create_of tables d) (named d.name d i)) ≡ false
own_match tables d w i distinct here =
    ap (is_matching w) (own_matched (create_of tables d) d (named d.name d i) (columns_given d.columns)) ∙ name_matches d.name d w i distinct here

own_matching : (tables : List TableDef) (d : TableDef) (w : MatchCount) (places : List ℕ) → has_distinct_names d ≡ true → are_places (length d.columns) places ≡ true
    → some_own_match (create_of tables d) w (map (named d.name d) places) ≡ false
unfolding some_match_among
own_matching tables d w places distinct within =
    any_mapped (λ name. is_matching w (own_matches (create_of tables d) name)) (named d.name d) places
    ∙ none_where (λ place. nat_lt place (length d.columns)) (λ place. is_matching w (own_matches (create_of tables d) (named d.name d place)))
    (λ place here. own_match tables d w place distinct here) places within

matching : (tables : List TableDef) (d : TableDef) (w : MatchCount) → list_all has_distinct_names tables ≡ true → Passed tables d → some_match tables (create_of tables d) w ≡ false
unfolding some_match some_match_among some_parent_match
matching tables d w all passed =
    let distinct = distinct_names d passed.once in
    let sounds = parts d.columns d.period d.key d.references d.sound in
    let system = system_at d passed.systems in
    let start = own_match tables d w d.period.start distinct sounds.start in
    let end = own_match tables d w d.period.end distinct sounds.end in
    let from = own_match tables d w (first_of is_row_start d) distinct (first_within is_row_start d system.start) in
    let to = own_match tables d w (first_of is_row_end d) distinct (first_within is_row_end d system.end) in
    let key = own_matching tables d w d.key distinct sounds.places in
    let own = each_reference tables d (λ (x : ReferenceElement). some_own_match (create_of tables d) w x.columns) all passed (λ r has. own_matching tables d w r.own distinct has.own) in
    let keys = each_reference tables d (λ (x : ReferenceElement). some_parent_match tables w x) all passed
    (λ r has.
    ap (passes (λ (t : TableDef). some_def_match t w (reference_to d has.table r).parent_columns)) has.found
    ∙ none_match d.name has.table w r.keys has.distinct has.keys) in
    rw (start, end, from, to, key, own, keys) refl

same_name : (name : Name) → bytes_eq name name ≡ true
same_name name = (bytes_eq-Decides name name).1 refl

one_period : (tables : List TableDef) (d : TableDef) → Defines tables (create_of tables d) d → is_matching Zero (period_matches (create_of tables d) d.period.name) ≡ false
unfolding is_matching
one_period tables d defines =
    ap (λ (n : ℕ). n == 0) (period_counted (create_of tables d) d.period.name (d.period.name, Some d.period.start, Some d.period.end) defines.period)
    ∙ ap (λ (b : Bool). cond b 1 0 == 0) (same_name d.period.name)

other_periods : (tables : List TableDef) (d : TableDef) → list_all has_distinct_names tables ≡ true → Passed tables d → list_any (λ (x : ReferenceElement). names_other_period tables x) (create_of tables d).references ≡ false
unfolding names_other_period
other_periods tables d all passed =
    each_reference tables d (λ (x : ReferenceElement). names_other_period tables x) all passed
    (λ r has. ap (passes (λ (t : TableDef). not (bytes_eq has.table.period.name t.period.name))) has.found ∙ ap not (same_name has.table.period.name))

periods_there : (tables : List TableDef) (d : TableDef) → list_all has_distinct_names tables ≡ true → Passed tables d → Defines tables (create_of tables d) d → lacks_period tables (create_of tables d) ≡ false
unfolding lacks_period
periods_there tables d all passed defines =
    let own = each_reference tables d (λ (x : ReferenceElement). is_matching Zero (period_matches (create_of tables d) x.period)) all passed (λ r has. one_period tables d defines) in
    rw (one_period tables d defines, own, other_periods tables d all passed) refl

few_points : (n : ℕ) → (nat_le 1 n && nat_le n 1000) ≡ true → (false || nat_lt n 1 || nat_lt 1000 n) ≡ false
few_points n e =
    let both = and_parts (nat_le 1 n) (nat_le n 1000) e in
    let low : nat_lt n 1 ≡ false = (let least = both.0 in grind (arith, nat_tests)) in
    let high : nat_lt 1000 n ≡ false = (let most = both.1 in grind (arith, nat_tests)) in
    rw (low, high) refl

low_precision : (p : ℕ) → nat_le p 12 ≡ true → (false || nat_lt 12 p) ≡ false
low_precision p e = let high : nat_lt 12 p ≡ false = grind (arith, nat_tests) in rw high refl

type_spelled : (k : ColumnKind) → is_kind k ≡ true → is_bad_type (spelled_type k) (is_some (spelled_side k)) ≡ false
unfolding is_bad_type
type_spelled Integer e = refl
type_spelled (Varchar n) e = few_points n e
type_spelled Date e = refl
type_spelled (RowStart None) e = refl
type_spelled (RowStart (Some p)) e = low_precision p e
type_spelled (RowEnd None) e = refl
type_spelled (RowEnd (Some p)) e = low_precision p e

types_spelled : (tables : List TableDef) (d : TableDef) → has_bad_column (create_of tables d) ≡ false
unfolding has_bad_column
types_spelled tables d =
    let sound = parts d.columns d.period d.key d.references d.sound in
    any_mapped (λ (x : ColumnElement). is_bad_type x.kind (is_some x.generated)) spelled_column d.columns
    ∙ none_where (λ (x : Column). is_kind x.kind) (λ (x : Column). is_bad_type (spelled_type x.kind) (is_some (spelled_side x.kind))) (λ x fits. type_spelled x.kind fits) d.columns sound.kinds

good_system : (tables : List TableDef) (d : TableDef) → Passed tables d → Defines tables (create_of tables d) d → has_bad_system_period (create_of tables d) ≡ false
unfolding has_bad_system_period
good_system tables d passed defines =
    let distinct = distinct_names d passed.once in
    let system = system_at d passed.systems in
    rw (system_kind is_row_start tables d defines distinct system.start, system_kind is_row_end tables d defines distinct system.end) refl

good_definition : (tables : List TableDef) (d : TableDef) → list_all has_distinct_names tables ≡ true → Passed tables d → Defines tables (create_of tables d) d → is_bad_definition tables (create_of tables d) ≡ false
unfolding is_bad_definition lacks_one_of_each has_other_period is_used_otherwise
good_definition tables d all passed defines =
    let c : CreateTable = create_of tables d in
    let systems : has_system_columns (columns_of c) ≡ true = ap has_system_columns (columns_are tables c d defines) ∙ passed.systems in
    let period : has_bad_period c ≡ false = dates_alike tables c d defines ∙ ap not passed.dates in
    let used = each_reference tables d (λ (x : ReferenceElement). not (bytes_eq x.period d.period.name)) all passed (λ r has. ap not (same_name d.period.name)) in
    let keys : references_no_key tables c ≡ false = no_keys_alike tables c d.references defines.references ∙ passed.keys in
    rw (systems, period, good_system tables d passed defines, types_spelled tables d, same_name d.period.name, used, other_periods tables d all passed, keys) refl

equal_lists : (tables : List TableDef) (d : TableDef) → Defines tables (create_of tables d) d → has_unequal_lists (create_of tables d) ≡ false
unfolding has_unequal_lists
equal_lists tables d defines =
    let c : CreateTable = create_of tables d in
    any_alike (declared_reference tables c) reference_parts (λ (x : ReferenceElement). not (length x.columns == length x.parent_columns)) (λ (r : Reference). not (length r.own == length r.keys))
    (λ x r e. ap not (lengths_same tables c x r e)) c.references d.references defines.references
    ∙ none_where (is_reference (length d.columns)) (λ (r : Reference). not (length r.own == length r.keys))
    (λ r fit. ap not (parts_of (length d.columns) r fit).lengths) d.references (parts d.columns d.period d.key d.references d.sound).referring

none_applies : (tables : List TableDef) (d : TableDef) → list_all has_distinct_names tables ≡ true → Passed tables d → Defines tables (create_of tables d) d → NoneApplies (Holds (create_conditions tables (create_of tables d)))
unfolding lacks_parent lacks_name is_ambiguous is_within_limits
none_applies tables d all passed defines =
    let c : CreateTable = create_of tables d in
    let distinct = distinct_names d passed.once in
    let limits : exceeds_limits tables c ≡ false = limits_alike tables c d defines ∙ few_of (length tables) (length d.columns) (length d.references) passed.limits in
    let parents = each_reference tables d (λ (x : ReferenceElement). is_none (parent_of tables x)) all passed (λ r has. ap is_none has.found) in
    let once : repeats_name c ≡ false = repeats_alike tables c d defines ∙ passed.once in
    let values : keys_period_column c ≡ false = keys_alike tables c d defines distinct (good_system tables d passed defines) ∙ passed.values in
    let kinds : references_other_kind tables c ≡ false =
    other_kinds_alike tables c d.references defines.references ∙ ap (λ (xs : List Column). list_any (refers_to_other_kind tables xs) d.references) (columns_are tables c d defines) ∙ passed.kinds in
    none_first (create_conditions tables c) (lit≤ tt, (lit≤ tt, (lit≤ tt, (lit≤ tt, (lit≤ tt, (lit≤ tt, (lit≤ tt, (lit≤ tt, (lit≤ tt, (lit≤ tt, tt))))))))))
    (rw (
      limits,
      passed.free,
      parents,
      matching tables d Zero all passed,
      periods_there tables d all passed defines,
      matching tables d Many all passed,
      once,
      values,
      good_definition tables d all passed defines,
      equal_lists tables d defines,
      kinds,
    ) refl)

pub lawful_if_passed : (tables : List TableDef) (d : TableDef) → list_all has_distinct_names tables ≡ true → passes_all tables d ≡ true → IsLawful tables d
lawful_if_passed tables d all passing =
    let passed = all_passed tables d passing in
    let defines = spells tables d all passed in
    (create_of tables d, none_applies tables d all passed defines, defines)
