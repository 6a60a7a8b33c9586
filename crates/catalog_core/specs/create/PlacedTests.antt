-- Tests of a definition by its names and places, in the order of CREATE's. It passes them all if
-- some CREATE that is accepted gives it.
use Rattle.std.specs.Prelude.{◌==◌, ◌&&◌, ◌||◌, ◌+◌, ℕ, Bool, not, List, Some, bytes_eq, cond}
use Rattle.std.specs.Prelude.{length, nat_le, nat_lt}
use Rattle.std.specs.List.{enumerate_from, list_all, list_any}
use Rattle.catalog_core.specs.Limits.{most_columns, most_references, most_tables}
use Rattle.catalog_core.specs.create.Creation.{is_there}
use Rattle.catalog_core.specs.create.Places.{are_dates, has_place, has_system_columns}
use Rattle.catalog_core.specs.create.Places.{refers_to_no_key, refers_to_other_kind, repeats_place}
use Rattle.catalog_core.specs.table.Matches.{is_matching}
use Rattle.catalog_core.specs.table.Naming.{Name, passes}
use Rattle.catalog_core.specs.table.TableWords.{def_matches, is_value_column, number_of, table_of}
use Rattle.catalog_core.specs.declared.table.match_counts.MatchCount.TheVariants.{Many}
use Rattle.catalog_core.specs.declared.table.Column.{Column}
use Rattle.catalog_core.specs.declared.table.Reference.{Reference}
use Rattle.catalog_core.specs.declared.table.TableDef.{TableDef}

-- there is room for one table more, and its columns and references are not too many
unfoldable pub is_within_limits : List TableDef → TableDef → Bool
is_within_limits tables d =
    nat_lt (length tables) most_tables
    && (nat_le (length d.columns) most_columns && nat_le (length d.references) most_references)

-- a reference is to a table that exists, the first of its name
unfoldable pub has_parent : List TableDef → Reference → Bool
has_parent tables r =
    passes (λ (t : TableDef). passes (λ first. first == r.parent) (number_of tables t.name))
    (table_of tables r.parent)

-- one name for two of its columns and its period
unfoldable pub names_several : TableDef → Name → Bool
names_several d name =
    is_matching Many (def_matches d name + cond (bytes_eq name d.period.name) 1 0)

-- some name is shared so, or a place is repeated in the key or in a list of a reference
unfoldable pub repeats_some : TableDef → Bool
repeats_some d =
    list_any (λ (x : Column). names_several d x.name) d.columns
    || names_several d d.period.name
    || repeats_place d.key
    || list_any (λ (r : Reference). repeats_place r.own || repeats_place r.keys) d.references

-- the key has the column at a place, or a reference has it among its own
unfoldable pub is_keyed_place : TableDef → ℕ → Bool
is_keyed_place d place =
    has_place d.key place || list_any (λ (r : Reference). has_place r.own place) d.references

-- some column is keyed so, and is no value column
unfoldable pub keys_other_column : TableDef → Bool
keys_other_column d =
    list_any (λ (c : ℕ × Column). is_keyed_place d c.0 && not (is_value_column d c))
    (enumerate_from 0 d.columns)

-- all tests
unfoldable pub passes_all : List TableDef → TableDef → Bool
passes_all tables d =
    is_within_limits tables d
    && (not (is_there tables d.name)
    && (list_all (has_parent tables) d.references
    && (not (repeats_some d)
    && (not (keys_other_column d)
    && (has_system_columns d.columns
    && (are_dates d.columns (Some d.period.start) (Some d.period.end)
    && (not (list_any (refers_to_no_key tables) d.references)
    && not (list_any (refers_to_other_kind tables d.columns) d.references))))))))
