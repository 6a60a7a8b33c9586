-- The first condition of a CREATE that holds, by names and then by places, and what is known if none does.
use Rattle.std.proofs.Common.{◌≡◌, ◌∷◌, ◌||◌, ◌∙◌, Bool, true, false, not, List, [], Option, None, Some, ap, length, lit≤, map, refl, sym}
use Rattle.std.specs.Prelude.{◌==◌}
use Rattle.std.specs.List.{list_all}
use Rattle.std.specs.Option.{option_or}
use Rattle.std.proofs.lemmas.Bool.{not-false, or_parts}
use Rattle.period_core.specs.Leasts.{IsLeast, NoneApplies}
use Rattle.period_core.specs.declared.refusal.Refusal.{Refusal}
use Rattle.period_core.specs.declared.refusal.Refusal.TheVariants.{BadDefinition}
use Rattle.sql_statements.specs.declared.create.CreateTable.{CreateTable}
use Rattle.catalog_core.proofs.lemmas.create.Alike.{dates_alike, repeats_alike}
use Rattle.catalog_core.proofs.lemmas.create.Built.{references_kept}
use Rattle.catalog_core.proofs.lemmas.create.Declared.{lengths_same}
use Rattle.catalog_core.proofs.lemmas.create.Given.{good_parts}
use Rattle.catalog_core.proofs.lemmas.create.Passed.{date_period, distinct_names}
use Rattle.catalog_core.proofs.lemmas.create.Shape.{is_one}
use Rattle.catalog_core.proofs.lemmas.judged.Least.{first_append, first_least, none_first}
use Rattle.catalog_core.proofs.lemmas.judged.Sound.{all_false}
use Rattle.catalog_core.proofs.lemmas.lists.AnyTests.{or_right}
use Rattle.catalog_core.specs.create.Creation.{create_conditions, has_bad_column, has_bad_period, has_bad_system_period, has_unequal_lists, is_bad_definition, lacks_name, lacks_one_of_each, lacks_parent, lacks_period, named_conditions, placed_conditions, some_match}
use Rattle.catalog_core.specs.create.Definition.{Defines, column_parts, columns_of, declared_column, declared_key, declared_period, declared_reference, is_reference_if_equal, reference_parts}
use Rattle.catalog_core.specs.create.Places.{are_dates, has_system_columns}
use Rattle.catalog_core.specs.RefusalConditions.{Holds, first_holding}
use Rattle.catalog_core.specs.table.IsDefinition.{is_reference}
use Rattle.catalog_core.specs.table.TableWords.{has_date_period, has_distinct_names}
use Rattle.catalog_core.specs.declared.table.match_counts.MatchCount.TheVariants.{Zero}
use Rattle.catalog_core.specs.declared.table.Column.{Column}
use Rattle.catalog_core.specs.declared.table.Reference.{Reference}
use Rattle.catalog_core.specs.declared.table.TableDef.{TableDef}

-- ==== the refusal ====

pub named_least : (tables : List TableDef) (c : CreateTable) (fault : Refusal) → first_holding (named_conditions tables c) ≡ Some fault → IsLeast (Holds (create_conditions tables c)) fault
named_least tables c fault first =
    first_least (create_conditions tables c) fault (lit≤ tt, (lit≤ tt, (lit≤ tt, (lit≤ tt, (lit≤ tt, (lit≤ tt, (lit≤ tt, (lit≤ tt, (lit≤ tt, (lit≤ tt, tt))))))))))
    (first_append (named_conditions tables c) (placed_conditions tables c) ∙ ap (λ (o : Option Refusal). option_or o (first_holding (placed_conditions tables c))) first)

pub placed_least : (tables : List TableDef) (c : CreateTable) (fault : Refusal) → first_holding (named_conditions tables c) ≡ None → first_holding (placed_conditions tables c) ≡ Some fault
    → IsLeast (Holds (create_conditions tables c)) fault
placed_least tables c fault none first =
    first_least (create_conditions tables c) fault (lit≤ tt, (lit≤ tt, (lit≤ tt, (lit≤ tt, (lit≤ tt, (lit≤ tt, (lit≤ tt, (lit≤ tt, (lit≤ tt, (lit≤ tt, tt))))))))))
    (first_append (named_conditions tables c) (placed_conditions tables c) ∙ ap (λ (o : Option Refusal). option_or o (first_holding (placed_conditions tables c))) none ∙ first)

pub none_least : (tables : List TableDef) (c : CreateTable) → first_holding (named_conditions tables c) ≡ None → first_holding (placed_conditions tables c) ≡ None → NoneApplies (Holds (create_conditions tables c))
none_least tables c none more =
    none_first (create_conditions tables c) (lit≤ tt, (lit≤ tt, (lit≤ tt, (lit≤ tt, (lit≤ tt, (lit≤ tt, (lit≤ tt, (lit≤ tt, (lit≤ tt, (lit≤ tt, tt))))))))))
    (first_append (named_conditions tables c) (placed_conditions tables c) ∙ ap (λ (o : Option Refusal). option_or o (first_holding (placed_conditions tables c))) none ∙ more)

pub bad_type_first : (tables : List TableDef) (c : CreateTable) → has_bad_column c ≡ true → first_holding (placed_conditions tables c) ≡ Some BadDefinition
unfolding is_bad_definition
bad_type_first tables c bad = rw (bad, or_right (lacks_one_of_each c || has_bad_period c || has_bad_system_period c)) refl

-- ==== what is known if none holds ====

pub record NamesFound (tables : List TableDef) (c : CreateTable) : Type 0 where
  pub parents : lacks_parent tables c ≡ false
  pub names : some_match tables c Zero ≡ false

pub names_found : (tables : List TableDef) (c : CreateTable) → first_holding (named_conditions tables c) ≡ None → NamesFound tables c
unfolding lacks_name
names_found tables c none =
    let tests = all_false (named_conditions tables c) none in
    record { parents = tests.1.1.0; names = (or_parts (some_match tables c Zero) (lacks_period tables c) tests.1.1.1.0).0 }

pub record IsWhole (tables : List TableDef) (c : CreateTable) : Type 0 where
  pub period : length c.periods ≡ 1
  pub key : length c.keys ≡ 1
  pub types : has_bad_column c ≡ false
  pub dates : has_bad_period c ≡ false
  pub equal : has_unequal_lists c ≡ false

pub whole : (tables : List TableDef) (c : CreateTable) → first_holding (placed_conditions tables c) ≡ None → IsWhole tables c
unfolding lacks_one_of_each
whole tables c none =
    let tests = all_false (placed_conditions tables c) none in
    let good = good_parts tables c tests.0 in
    let periods : Bool = not (length c.periods == 1) in
    let systems : Bool = not (length c.system_periods == 1) in
    let a = or_parts (periods || systems || not (has_system_columns (columns_of c))) (not (length c.keys == 1)) good.one in
    let b = or_parts (periods || systems) (not (has_system_columns (columns_of c))) a.0 in
    let d = or_parts periods systems b.0 in
    record { period = is_one (length c.periods) d.0; key = is_one (length c.keys) a.1; types = good.types; dates = good.period; equal = tests.1.0 }

pub whole_references : (tables : List TableDef) (c : CreateTable) (references : List Reference) → has_unequal_lists c ≡ false → map (declared_reference tables c) c.references ≡ map reference_parts references
    → list_all (is_reference_if_equal (length c.columns)) references ≡ true → list_all (is_reference (length c.columns)) references ≡ true
unfolding has_unequal_lists
whole_references tables c references equal same kept = references_kept (length c.columns) c.references references (declared_reference tables c) (lengths_same tables c) same equal kept

-- the definition that is built from the parts
pub defines_built : (tables : List TableDef) (c : CreateTable) (d : TableDef) (columns : List Column) (references : List Reference) → d.name ≡ c.name → d.columns ≡ columns
    → map (declared_period c) c.periods ≡ (d.period.name, Some d.period.start, Some d.period.end) ∷ [] → map (declared_key c) c.keys ≡ map Some d.key ∷ [] → d.references ≡ references
    → map declared_column c.columns ≡ map column_parts columns → map (declared_reference tables c) c.references ≡ map reference_parts references → Defines tables c d
defines_built tables c d columns references name its_columns period key its_references declared referring =
    record {
      name = name;
      columns = declared ∙ ap (map column_parts) (sym its_columns);
      period = period;
      key = key;
      references = referring ∙ ap (map reference_parts) (sym its_references);
    }

pub distinct_defined : (tables : List TableDef) (c : CreateTable) (d : TableDef) → first_holding (named_conditions tables c) ≡ None → Defines tables c d → has_distinct_names d ≡ true
distinct_defined tables c d none defines =
    let tests = all_false (named_conditions tables c) none in
    distinct_names d (sym (repeats_alike tables c d defines) ∙ tests.1.1.1.1.1.0)

pub dated_defined : (tables : List TableDef) (c : CreateTable) (d : TableDef) → first_holding (named_conditions tables c) ≡ None → first_holding (placed_conditions tables c) ≡ None → Defines tables c d → has_date_period d ≡ true
dated_defined tables c d none more defines =
    date_period d (distinct_defined tables c d none defines)
    (not-false (are_dates d.columns (Some d.period.start) (Some d.period.end)) (sym (dates_alike tables c d defines) ∙ (whole tables c more).dates))
