-- A definition that some CREATE gives passes the tests.
use Rattle.std.proofs.Common.{◌≡◌, ◌+◌, ◌∷◌, ◌&&◌, ◌||◌, ◌∙◌, ℕ, suc, Bool, true, false, not, List, [], None, Some, arith, ap, ap₂, bytes_eq, length, map, nat_le, nat_lt, refl, sym}
use Rattle.std.specs.Prelude.{◌==◌, slice_get}
use Rattle.std.specs.List.{list_all, list_any, position}
use Rattle.std.specs.Option.{option_map}
use Rattle.std.proofs.lemmas.Bool.{and_from, eq-eqb, not-false, or_parts}
use Rattle.std.proofs.lemmas.Bool.Decides.{nat_tests}
use Rattle.std.proofs.lemmas.List.Quantifiers.{position-Some}
use Rattle.std.proofs.lemmas.Option.{get_or_from_slice_get, same_Some}
use Rattle.std.proofs.lemmas.Slice.Eq.{bytes_eq-Decides}
use Rattle.sql_statements.specs.declared.create.CreateTable.{CreateTable}
use Rattle.sql_statements.specs.declared.create.ReferenceElement.{ReferenceElement}
use Rattle.catalog_core.proofs.lemmas.create.Alike.{columns_are, dates_alike, keys_alike, no_keys_alike, other_kinds_alike, repeats_alike}
use Rattle.catalog_core.proofs.lemmas.create.Built.{mapped_lengths}
use Rattle.catalog_core.proofs.lemmas.create.Declared.{reference_same}
use Rattle.catalog_core.proofs.lemmas.judged.Sound.{are_false}
use Rattle.catalog_core.specs.create.Creation.{create_conditions, exceeds_limits, has_bad_column, has_bad_period, has_bad_system_period, has_other_period, is_bad_definition, is_there, lacks_one_of_each, references_no_key, references_other_kind}
use Rattle.catalog_core.specs.create.Definition.{Defines, column_parts, columns_of, declared_column, declared_reference, reference_parts}
use Rattle.catalog_core.specs.create.Lawful.{IsLawful}
use Rattle.catalog_core.specs.create.Places.{are_dates, has_system_columns, refers_to_other_kind}
use Rattle.catalog_core.specs.create.PlacedTests.{has_parent, is_within_limits, passes_all, repeats_some}
use Rattle.catalog_core.specs.table.Naming.{Name, passes}
use Rattle.catalog_core.specs.table.TableWords.{number_of, table_of}
use Rattle.catalog_core.specs.declared.table.Column.{Column}
use Rattle.catalog_core.specs.declared.table.Reference.{Reference}
use Rattle.catalog_core.specs.declared.table.TableDef.{TableDef}
use Rattle.catalog_core.proofs.lemmas.create.Passed.{passed_all, distinct_names}

-- ==== if some CREATE gives the definition ====

of_few : (n m k : ℕ) → (nat_le 64 n || nat_lt 32 m || nat_lt 8 k) ≡ false → (nat_lt n 64 && (nat_le m 32 && nat_le k 8)) ≡ true
of_few n m k e =
    let a = or_parts (nat_le 64 n || nat_lt 32 m) (nat_lt 8 k) e in
    let b = or_parts (nat_le 64 n) (nat_lt 32 m) a.0 in
    let first : nat_lt n 64 ≡ true = (let h = b.0 in grind (arith, nat_tests)) in
    let second : nat_le m 32 ≡ true = (let h = b.1 in grind (arith, nat_tests)) in
    let third : nat_le k 8 ≡ true = (let h = a.1 in grind (arith, nat_tests)) in
    rw (first, second, third) refl

pub limits_alike : (tables : List TableDef) (c : CreateTable) (d : TableDef) → Defines tables c d
    → exceeds_limits tables c ≡ (nat_le 64 (length tables) || nat_lt 32 (length d.columns) || nat_lt 8 (length d.references))
unfolding exceeds_limits
limits_alike tables c d defines =
    ap₂ (λ (n m : ℕ). nat_le 64 (length tables) || nat_lt 32 n || nat_lt 8 m) (mapped_lengths declared_column column_parts c.columns d.columns defines.columns)
    (mapped_lengths (declared_reference tables c) reference_parts c.references d.references defines.references)

-- the name by which a table is found is the table's
parent_named : (tables : List TableDef) (name : Name) (n : ℕ) (t : TableDef) → number_of tables name ≡ Some n → table_of tables n ≡ Some t → name ≡ t.name
unfolding number_of
parent_named tables name n t numbered there =
    let p : TableDef → Bool = λ u. bytes_eq name u.name in
    (elim (position p tables) as (λ o. position p tables ≡ o → option_map (λ m. m + 1) o ≡ Some n → name ≡ t.name) [
      | None ↦ (λ e h. absurd cc)
      | Some m ↦ (λ e h.
          let number : m + 1 ≡ n = same_Some (m + 1) n h in
          let same : suc m ≡ n = omega (arith, number) in
          let at : slice_get tables m ≡ Some t = ap (table_of tables) same ∙ there in
          let first = position-Some p tables m t e in
          (bytes_eq-Decides name t.name).0 (ap p (sym (get_or_from_slice_get tables m t t at)) ∙ first.1))
    ]) refl numbered

parents_there : (tables : List TableDef) (c : CreateTable) (elements : List ReferenceElement) (references : List Reference) → map (declared_reference tables c) elements ≡ map reference_parts references
    → list_all (has_parent tables) references ≡ true
unfolding has_parent
parents_there tables c [] [] same = refl
parents_there tables c [] (r ∷ references) same = cc
parents_there tables c (x ∷ elements) [] same = refl
parents_there tables c (x ∷ elements) (r ∷ references) same =
    let first : declared_reference tables c x ≡ reference_parts r = cc in
    let later : map (declared_reference tables c) elements ≡ map reference_parts references = cc in
    let is = reference_same tables c x r first in
    let number : number_of tables is.parent.name ≡ Some r.parent = ap (number_of tables) (sym (parent_named tables x.parent r.parent is.parent is.number is.there)) ∙ is.number in
    and_from (has_parent tables r) (list_all (has_parent tables) references)
    (ap (passes (λ (t : TableDef). passes (λ n. n == r.parent) (number_of tables t.name))) is.there ∙ ap (passes (λ n. n == r.parent)) number ∙ eq-eqb r.parent r.parent refl)
    (parents_there tables c elements references later)

-- the parts of the conditions of a definition that is refused for itself
pub record GoodParts (tables : List TableDef) (c : CreateTable) : Type 0 where
  pub one : lacks_one_of_each c ≡ false
  pub period : has_bad_period c ≡ false
  pub system : has_bad_system_period c ≡ false
  pub types : has_bad_column c ≡ false
  pub other : has_other_period tables c ≡ false
  pub keys : references_no_key tables c ≡ false

pub good_parts : (tables : List TableDef) (c : CreateTable) → is_bad_definition tables c ≡ false → GoodParts tables c
unfolding is_bad_definition
good_parts tables c good =
    let a = or_parts (lacks_one_of_each c || has_bad_period c || has_bad_system_period c || has_bad_column c || has_other_period tables c) (references_no_key tables c) good in
    let b = or_parts (lacks_one_of_each c || has_bad_period c || has_bad_system_period c || has_bad_column c) (has_other_period tables c) a.0 in
    let d = or_parts (lacks_one_of_each c || has_bad_period c || has_bad_system_period c) (has_bad_column c) b.0 in
    let e = or_parts (lacks_one_of_each c || has_bad_period c) (has_bad_system_period c) d.0 in
    let f = or_parts (lacks_one_of_each c) (has_bad_period c) e.0 in
    record { one = f.0; period = f.1; system = e.1; types = d.1; other = b.1; keys = a.1 }

pub system_columns : (c : CreateTable) → lacks_one_of_each c ≡ false → has_system_columns (columns_of c) ≡ true
unfolding lacks_one_of_each
system_columns c one =
    let a = or_parts (not (length c.periods == 1) || not (length c.system_periods == 1) || not (has_system_columns (columns_of c))) (not (length c.keys == 1)) one in
    let b = or_parts (not (length c.periods == 1) || not (length c.system_periods == 1)) (not (has_system_columns (columns_of c))) a.0 in
    not-false (has_system_columns (columns_of c)) b.1

pub passed_if_lawful : (tables : List TableDef) (d : TableDef) → IsLawful tables d → passes_all tables d ≡ true
unfolding is_within_limits
passed_if_lawful tables d given =
    let c : CreateTable = given.0 in
    let defines = given.2 in
    let tests = are_false (create_conditions tables c) given.1 in
    let limits : exceeds_limits tables c ≡ false = tests.0 in
    let free : is_there tables c.name ≡ false = tests.1.0 in
    let bad : is_bad_definition tables c ≡ false = tests.1.1.1.1.1.1.1.0 in
    let kinds : references_other_kind tables c ≡ false = tests.1.1.1.1.1.1.1.1.1.0 in
    let good = good_parts tables c bad in
    let once : repeats_some d ≡ false = sym (repeats_alike tables c d defines) ∙ tests.1.1.1.1.1.0 in
    let columns = columns_are tables c d defines in
    passed_all tables d (record {
      limits = of_few (length tables) (length d.columns) (length d.references) (sym (limits_alike tables c d defines) ∙ limits);
      free = ap (is_there tables) defines.name ∙ free;
      parents = parents_there tables c c.references d.references defines.references;
      once = once;
      values = sym (keys_alike tables c d defines (distinct_names d once) good.system) ∙ tests.1.1.1.1.1.1.0;
      systems = ap has_system_columns (sym columns) ∙ system_columns c good.one;
      dates = not-false (are_dates d.columns (Some d.period.start) (Some d.period.end)) (sym (dates_alike tables c d defines) ∙ good.period);
      keys = sym (no_keys_alike tables c d.references defines.references) ∙ good.keys;
      kinds = ap (λ (xs : List Column). list_any (refers_to_other_kind tables xs) d.references) (sym columns) ∙ sym (other_kinds_alike tables c d.references defines.references) ∙ kinds;
    })
