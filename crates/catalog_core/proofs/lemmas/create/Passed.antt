-- The tests of a definition, one by one, and what they say of its names and dates.
use Rattle.std.proofs.Common.{◌≡◌, ◌<◌, ◌+◌, ◌&&◌, ◌||◌, ◌∙◌, ℕ, Bool, true, false, not, List, None, Some, arith, ap, bytes_eq, cond, length, nat_le, nat_lt, refl}
use Rattle.std.specs.Prelude.{◌==◌, slice_get}
use Rattle.std.specs.List.{list_all, list_any}
use Rattle.std.specs.Option.{option_map}
use Rattle.std.proofs.lemmas.Bool.{and_from, and_parts, eq-eqb, false≢true, not-true, or_parts}
use Rattle.std.proofs.lemmas.Bool.Decides.{nat_tests}
use Rattle.catalog_core.proofs.lemmas.create.PlacedNames.{placed_there}
use Rattle.catalog_core.proofs.lemmas.lists.AnyTests.{none_stronger}
use Rattle.catalog_core.specs.Limits.{most_columns, most_references, most_tables}
use Rattle.catalog_core.specs.create.Creation.{is_there}
use Rattle.catalog_core.specs.create.Places.{are_dates, declared_at, has_system_columns, is_date_place, kind_at, refers_to_no_key, refers_to_other_kind, repeats_place}
use Rattle.catalog_core.specs.create.PlacedTests.{has_parent, is_within_limits, keys_other_column, names_several, passes_all, repeats_some}
use Rattle.catalog_core.specs.table.Kinds.{kind_of_column, same_kind}
use Rattle.catalog_core.specs.table.Matches.{is_matching}
use Rattle.catalog_core.specs.table.Naming.{passes}
use Rattle.catalog_core.specs.table.TableWords.{def_matches, def_place, has_date_period, has_distinct_names, is_date_column}
use Rattle.catalog_core.specs.declared.table.Column.{Column}
use Rattle.catalog_core.specs.declared.table.Reference.{Reference}
use Rattle.catalog_core.specs.declared.table.TableDef.{TableDef}
use Rattle.catalog_core.specs.declared.table.ValueKind.TheVariants as kind

-- ==== the tests, one by one ====

pub record Passed (tables : List TableDef) (d : TableDef) : Type 0 where
  pub limits : is_within_limits tables d ≡ true
  pub free : is_there tables d.name ≡ false
  pub parents : list_all (has_parent tables) d.references ≡ true
  pub once : repeats_some d ≡ false
  pub values : keys_other_column d ≡ false
  pub systems : has_system_columns d.columns ≡ true
  pub dates : are_dates d.columns (Some d.period.start) (Some d.period.end) ≡ true
  pub keys : list_any (refers_to_no_key tables) d.references ≡ false
  pub kinds : list_any (refers_to_other_kind tables d.columns) d.references ≡ false

pub all_passed : (tables : List TableDef) (d : TableDef) → passes_all tables d ≡ true → Passed tables d
unfolding passes_all
all_passed tables d all =
    let i : Bool = not (list_any (refers_to_other_kind tables d.columns) d.references) in
    let h : Bool = not (list_any (refers_to_no_key tables) d.references) && i in
    let g : Bool = are_dates d.columns (Some d.period.start) (Some d.period.end) && h in
    let f : Bool = has_system_columns d.columns && g in
    let e : Bool = not (keys_other_column d) && f in
    let k : Bool = not (repeats_some d) && e in
    let b : Bool = list_all (has_parent tables) d.references && k in
    let a : Bool = not (is_there tables d.name) && b in
    let p = and_parts (is_within_limits tables d) a all in
    let q = and_parts (not (is_there tables d.name)) b p.1 in
    let r = and_parts (list_all (has_parent tables) d.references) k q.1 in
    let s = and_parts (not (repeats_some d)) e r.1 in
    let t = and_parts (not (keys_other_column d)) f s.1 in
    let u = and_parts (has_system_columns d.columns) g t.1 in
    let v = and_parts (are_dates d.columns (Some d.period.start) (Some d.period.end)) h u.1 in
    let w = and_parts (not (list_any (refers_to_no_key tables) d.references)) i v.1 in
    record {
      limits = p.0;
      free = not-true (is_there tables d.name) q.0;
      parents = r.0;
      once = not-true (repeats_some d) s.0;
      values = not-true (keys_other_column d) t.0;
      systems = u.0;
      dates = v.0;
      keys = not-true (list_any (refers_to_no_key tables) d.references) w.0;
      kinds = not-true (list_any (refers_to_other_kind tables d.columns) d.references) w.1;
    }

pub passed_all : (tables : List TableDef) (d : TableDef) → Passed tables d → passes_all tables d ≡ true
unfolding passes_all
passed_all tables d p = rw (p.limits, p.free, p.parents, p.once, p.values, p.systems, p.dates, p.keys, p.kinds) refl

fewer_than_most : (n : ℕ) (others : Bool) → (nat_lt n 64 && others) ≡ true → n < 64
fewer_than_most n others e =
    let few = (and_parts (nat_lt n 64) others e).0 in
    grind (arith, nat_tests)

pub has_room : (tables : List TableDef) (d : TableDef) → is_within_limits tables d ≡ true → length tables < most_tables
unfolding is_within_limits
has_room tables d within = fewer_than_most (length tables) (nat_le (length d.columns) most_columns && nat_le (length d.references) most_references) within

-- ==== names and dates ====

several_more : (n m : ℕ) → nat_lt 1 n ≡ true → nat_lt 1 (n + m) ≡ true
several_more n m some = grind (arith, nat_tests)

pub distinct_names : (d : TableDef) → repeats_some d ≡ false → has_distinct_names d ≡ true
unfolding repeats_some names_several has_distinct_names is_matching
distinct_names d once =
    let columns : Bool = list_any (λ (x : Column). nat_lt 1 (def_matches d x.name + cond (bytes_eq x.name d.period.name) 1 0)) d.columns in
    let references : Bool = list_any (λ (r : Reference). repeats_place r.own || repeats_place r.keys) d.references in
    let period : Bool = nat_lt 1 (def_matches d d.period.name + cond (bytes_eq d.period.name d.period.name) 1 0) in
    let a = or_parts (columns || period || repeats_place d.key) references once in
    let b = or_parts (columns || period) (repeats_place d.key) a.0 in
    let e = or_parts columns period b.0 in
    ap not (none_stronger (λ (x : Column). nat_lt 1 (def_matches d x.name)) (λ (x : Column). nat_lt 1 (def_matches d x.name + cond (bytes_eq x.name d.period.name) 1 0))
    (λ x some. several_more (def_matches d x.name) (cond (bytes_eq x.name d.period.name) 1 0) some) d.columns e.0)

date_column : (d : TableDef) (place : ℕ) → has_distinct_names d ≡ true → is_date_place d.columns place ≡ true → is_date_column d place ≡ true
unfolding is_date_column is_date_place kind_at declared_at
date_column d place distinct dated =
    (elim (slice_get d.columns place) as (λ o. slice_get d.columns place ≡ o → passes (λ found. same_kind found kind.Date) (option_map kind_of_column (option_map (λ (x : Column). x.kind) o)) ≡ true
    → passes (λ (x : Column). same_kind (kind_of_column x.kind) kind.Date && passes (λ other. other == place) (def_place d x.name)) o ≡ true) [
      | None ↦ (λ e p. absurd (false≢true p))
      | Some x ↦ (λ e p.
          and_from (same_kind (kind_of_column x.kind) kind.Date) (passes (λ other. other == place) (def_place d x.name)) p
          (ap (passes (λ other. other == place)) (placed_there d place x distinct e) ∙ eq-eqb place place refl))
    ]) refl dated

pub date_period : (d : TableDef) → has_distinct_names d ≡ true → are_dates d.columns (Some d.period.start) (Some d.period.end) ≡ true → has_date_period d ≡ true
unfolding has_date_period are_dates
date_period d distinct dates =
    let a = and_parts (not (d.period.start == d.period.end)) (is_date_place d.columns d.period.start && is_date_place d.columns d.period.end) dates in
    let b = and_parts (is_date_place d.columns d.period.start) (is_date_place d.columns d.period.end) a.1 in
    and_from (not (d.period.start == d.period.end)) (is_date_column d d.period.start && is_date_column d d.period.end) a.0
    (and_from (is_date_column d d.period.start) (is_date_column d d.period.end) (date_column d d.period.start distinct b.0) (date_column d d.period.end distinct b.1))
