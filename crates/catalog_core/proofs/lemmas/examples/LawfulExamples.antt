-- Worked examples: how a definition is spelled as a CREATE, and which definitions a CREATE gives.
use Rattle.std.proofs.Common.{◌∷◌, [], None, Some, lit≤, refl}
use Rattle.std.specs.Prelude.{codes}
use Rattle.std.proofs.lemmas.Bool.{false≢true}
use Rattle.sql_statements.specs.declared.create.CreateTable.{CreateTable}
use Rattle.catalog_core.proofs.lemmas.create.Given.{passed_if_lawful}
use Rattle.catalog_core.proofs.lemmas.examples.Tables.{dep}
use Rattle.catalog_core.proofs.lemmas.judged.Least.{none_first}
use Rattle.catalog_core.specs.create.Creation.{create_conditions, period_matches, some_parent_match, some_match, exceeds_limits, is_there, lacks_parent, names_other_period, lacks_period, lacks_name, is_ambiguous, is_shared, repeats_name, is_no_value_column, is_keyed, keys_period_column, lacks_one_of_each, has_bad_period, has_bad_system_period, is_bad_type, has_bad_column, is_used_otherwise, has_other_period, names_no_key, references_no_key, is_bad_definition, has_unequal_lists, names_other_kind, references_other_kind}
use Rattle.catalog_core.specs.create.Definition.{declared_kind, declared_reference}
use Rattle.catalog_core.specs.create.Places.{has_system_columns, declared_at, kind_at, is_date_place, are_dates, has_place, are_key_places, have_two_kinds}
use Rattle.catalog_core.specs.create.Lawful.{IsLawful}
use Rattle.catalog_core.specs.create.PlacedTests.{has_parent, is_within_limits, passes_all}
use Rattle.catalog_core.proofs.lemmas.create.Spelling.{create_of}
use Rattle.catalog_core.specs.table.Kinds.{kind_of_column, same_kind, differ}
use Rattle.catalog_core.specs.table.Matches.{is_matching}
use Rattle.catalog_core.specs.table.Naming.{matches_among, place_among, repeats, some_match_among}
use Rattle.catalog_core.specs.table.TableWords.{number_of, table_of_name}
use Rattle.catalog_core.specs.declared.table.ColumnKind.TheVariants as kind
use Rattle.catalog_core.specs.declared.table.TableDef.{TableDef}

-- EMP (S DATE, E DATE, system columns SS and SE, N INTEGER, period P over S and E, key N), where N refers to DNO of table 1
abbrev emp : TableDef
emp =
    record {
      name = codes "EMP";
      columns =
          record { name = codes "S"; kind = kind.Date }
          ∷ record { name = codes "E"; kind = kind.Date }
          ∷ record { name = codes "SS"; kind = kind.RowStart (Some 12) }
          ∷ record { name = codes "SE"; kind = kind.RowEnd None }
          ∷ record { name = codes "N"; kind = kind.Integer }
          ∷ [];
      period = record { name = codes "P"; start = 0; end = 1 };
      key = 4 ∷ [];
      references = record { parent = 1; own = 4 ∷ []; keys = 2 ∷ [] } ∷ [];
      sound = refl;
    }

-- the CREATE that spells EMP over DEP
abbrev create : CreateTable
create = create_of (dep ∷ []) emp

-- the definition of EMP is lawful after DEP
lawful : IsLawful (dep ∷ []) emp
unfolding place_among declared_reference declared_kind matches_among period_matches some_match_among some_parent_match some_match exceeds_limits is_there lacks_parent names_other_period lacks_period lacks_name is_ambiguous is_shared repeats repeats_name is_no_value_column keys_period_column lacks_one_of_each has_bad_period has_bad_system_period is_bad_type has_bad_column is_used_otherwise has_other_period names_no_key references_no_key is_bad_definition has_unequal_lists names_other_kind references_other_kind is_matching number_of table_of_name kind_of_column same_kind differ is_keyed has_system_columns declared_at kind_at is_date_place are_dates has_place are_key_places have_two_kinds
lawful = (
  create,
  none_first (create_conditions (dep ∷ []) create) (lit≤ tt, (lit≤ tt, (lit≤ tt, (lit≤ tt, (lit≤ tt, (lit≤ tt, (lit≤ tt, (lit≤ tt, (lit≤ tt, (lit≤ tt, tt)))))))))) refl,
  record { name = refl; columns = refl; period = refl; key = refl; references = refl },
)

-- EMP is not lawful if its parent is missing
without_parent : IsLawful [] emp → ⊥
unfolding passes_all is_within_limits is_there has_parent
without_parent given = false≢true (passed_if_lawful [] emp given)
