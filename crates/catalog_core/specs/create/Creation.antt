-- CREATE TABLE: when it is refused.
-- A name is judged by what it matches. One that matches nothing, in a list or among the tables, is
-- refused by 23 or 24, and one that matches several columns by 25: each other condition that it
-- makes hold has a higher number. So columns are judged by places from 28 on.
use Rattle.std.specs.Prelude.{◌==◌, ◌&&◌, ◌||◌, ◌+◌, ◌++◌, ◌∷◌, ℕ, Bool, not, List, [], Some, None}
use Rattle.std.specs.Prelude.{length, bytes_eq, count_by, nat_le, nat_lt, is_none, is_some}
use Rattle.std.specs.List.{list_any}
use Rattle.period_core.specs.declared.refusal.Refusal.TheVariants.{LimitReached, TableExists}
use Rattle.period_core.specs.declared.refusal.Refusal.TheVariants.{UnknownTable, UnknownColumn}
use Rattle.period_core.specs.declared.refusal.Refusal.TheVariants.{AmbiguousColumn, DuplicateName}
use Rattle.period_core.specs.declared.refusal.Refusal.TheVariants.{PeriodColumn, BadDefinition}
use Rattle.period_core.specs.declared.refusal.Refusal.TheVariants.{ColumnCount, TypeMismatch}
use Rattle.sql_statements.specs.declared.create.TypeName.{TypeName}
use Rattle.sql_statements.specs.declared.create.TypeName.TheVariants.{Integer, Date, Varchar}
use Rattle.sql_statements.specs.declared.create.TypeName.TheVariants.{Timestamp}
use Rattle.sql_statements.specs.declared.create.ColumnElement.{ColumnElement}
use Rattle.sql_statements.specs.declared.create.PeriodElement.{PeriodElement}
use Rattle.sql_statements.specs.declared.create.SystemElement.{SystemElement}
use Rattle.sql_statements.specs.declared.create.KeyElement.{KeyElement}
use Rattle.sql_statements.specs.declared.create.ReferenceElement.{ReferenceElement}
use Rattle.sql_statements.specs.declared.create.CreateTable.{CreateTable}
use Rattle.catalog_core.specs.RefusalConditions.{RefusalCondition}
use Rattle.catalog_core.specs.Limits.{greatest_precision, most_code_points, most_columns}
use Rattle.catalog_core.specs.Limits.{most_references, most_tables}
use Rattle.catalog_core.specs.create.Definition.{columns_of, own_place, own_places, parent_of}
use Rattle.catalog_core.specs.create.Definition.{parent_places}
use Rattle.catalog_core.specs.create.Places.{are_dates, are_key_places, declared_at}
use Rattle.catalog_core.specs.create.Places.{has_system_columns, have_two_kinds, is_row_end}
use Rattle.catalog_core.specs.create.Places.{is_row_start}
use Rattle.catalog_core.specs.table.Matches.{is_matching}
use Rattle.catalog_core.specs.table.Naming.{Name, matches_among, passes, repeats, some_match_among}
use Rattle.catalog_core.specs.table.TableWords.{some_def_match}
use Rattle.catalog_core.specs.declared.table.match_counts.MatchCount.{MatchCount}
use Rattle.catalog_core.specs.declared.table.match_counts.MatchCount.TheVariants.{Zero, Many}
use Rattle.catalog_core.specs.declared.table.ColumnKind.{ColumnKind}
use Rattle.catalog_core.specs.declared.table.TableDef.{TableDef}

-- ==== words ====

-- the number of the statement's columns or periods that a name matches
abbrev pub own_matches : CreateTable → Name → ℕ
own_matches c name = matches_among (λ (x : ColumnElement). x.name) c.columns name

-- the number of the statement's application periods that have the name
unfoldable pub period_matches : CreateTable → Name → ℕ
period_matches c name = count_by (λ (x : PeriodElement). bytes_eq name x.name) c.periods

-- some of the names matches the wanted number of the statement's own columns
abbrev pub some_own_match : CreateTable → MatchCount → List Name → Bool
some_own_match c wanted names =
    some_match_among (λ (x : ColumnElement). x.name) c.columns wanted names

-- some of the names matches the wanted number of the parent's columns
unfoldable pub some_parent_match : List TableDef → MatchCount → ReferenceElement → Bool
some_parent_match catalog wanted x =
    passes (λ (t : TableDef). some_def_match t wanted x.parent_columns) (parent_of catalog x)

-- some column that CREATE names matches the wanted number of columns
unfoldable pub some_match : List TableDef → CreateTable → MatchCount → Bool
some_match catalog c wanted =
    list_any (λ (x : PeriodElement). some_own_match c wanted (x.start ∷ x.end ∷ [])) c.periods
    || list_any (λ (x : SystemElement). some_own_match c wanted (x.start ∷ x.end ∷ []))
    c.system_periods
    || list_any (λ (x : KeyElement). some_own_match c wanted x.columns) c.keys
    || list_any (λ (x : ReferenceElement). some_own_match c wanted x.columns) c.references
    || list_any (λ (x : ReferenceElement). some_parent_match catalog wanted x) c.references

-- ==== the conditions, by the numbers of their refusals ====

-- 21: more than 64 tables with this one, 32 columns or 8 references
unfoldable pub exceeds_limits : List TableDef → CreateTable → Bool
exceeds_limits catalog c =
    nat_le most_tables (length catalog)
    || nat_lt most_columns (length c.columns)
    || nat_lt most_references (length c.references)

-- 22: a table of this name exists
unfoldable pub is_there : List TableDef → Name → Bool
is_there catalog name = list_any (λ (t : TableDef). bytes_eq name t.name) catalog

-- 23: a reference names a table that is missing
unfoldable pub lacks_parent : List TableDef → CreateTable → Bool
lacks_parent catalog c =
    list_any (λ (x : ReferenceElement). is_none (parent_of catalog x)) c.references

-- 24: a column or a period that is missing
unfoldable pub names_other_period : List TableDef → ReferenceElement → Bool
names_other_period catalog x =
    passes (λ (t : TableDef). not (bytes_eq x.parent_period t.period.name)) (parent_of catalog x)

-- a key or a reference names a period that is missing, of its own table or of the parent
unfoldable pub lacks_period : List TableDef → CreateTable → Bool
lacks_period catalog c =
    list_any (λ (x : KeyElement). is_matching Zero (period_matches c x.period)) c.keys
    || list_any (λ (x : ReferenceElement). is_matching Zero (period_matches c x.period))
    c.references
    || list_any (λ (x : ReferenceElement). names_other_period catalog x) c.references

-- a column or a period
unfoldable pub lacks_name : List TableDef → CreateTable → Bool
lacks_name catalog c = some_match catalog c Zero || lacks_period catalog c

-- 25: a column that is named is declared more than once
unfoldable pub is_ambiguous : List TableDef → CreateTable → Bool
is_ambiguous catalog c = some_match catalog c Many

-- 26: one name for two columns or periods, or twice in a list of a key or a reference
unfoldable pub is_shared : CreateTable → Name → Bool
is_shared c name = is_matching Many (own_matches c name + period_matches c name)

-- some name is shared so, or repeated in a list
unfoldable pub repeats_name : CreateTable → Bool
repeats_name c =
    list_any (λ (x : ColumnElement). is_shared c x.name) c.columns
    || list_any (λ (x : PeriodElement). is_shared c x.name) c.periods
    || list_any (λ (x : KeyElement). repeats x.columns) c.keys
    || list_any (λ (x : ReferenceElement). repeats x.columns || repeats x.parent_columns)
    c.references

-- 27: a period or system column in the table's own key or reference columns; a period column is one
-- that a PERIOD names
unfoldable pub is_no_value_column : CreateTable → ColumnElement → Bool
is_no_value_column c column =
    list_any (λ (x : PeriodElement). bytes_eq column.name x.start || bytes_eq column.name x.end)
    c.periods
    || list_any (λ (x : SystemElement). bytes_eq column.name x.start || bytes_eq column.name x.end)
    c.system_periods
    || is_some column.generated

-- a key has a column of the name, or a reference has it among its own
unfoldable pub is_keyed : CreateTable → Name → Bool
is_keyed c name =
    list_any (λ (x : KeyElement). list_any (bytes_eq name) x.columns) c.keys
    || list_any (λ (x : ReferenceElement). list_any (bytes_eq name) x.columns) c.references

-- some column is keyed so, and is a period or system column
unfoldable pub keys_period_column : CreateTable → Bool
keys_period_column c =
    list_any (λ (x : ColumnElement). is_keyed c x.name && is_no_value_column c x) c.columns

-- 28: there aren't exactly one application period, SYSTEM_TIME period, ROW START column, ROW END
-- column and PRIMARY KEY
unfoldable pub lacks_one_of_each : CreateTable → Bool
lacks_one_of_each c =
    not (length c.periods == 1)
    || not (length c.system_periods == 1)
    || not (has_system_columns (columns_of c))
    || not (length c.keys == 1)

-- the application period's columns aren't two different DATE columns
unfoldable pub has_bad_period : CreateTable → Bool
has_bad_period c =
    list_any
    (λ (x : PeriodElement).
    not (are_dates (columns_of c) (own_place c x.start) (own_place c x.end)))
    c.periods

-- a name is not of a column with such a kind
abbrev pub is_other : (ColumnKind → Bool) → CreateTable → Name → Bool
is_other test c name = not (passes test (declared_at (columns_of c) (own_place c name)))

-- the SYSTEM_TIME period isn't (ROW START column, ROW END column)
unfoldable pub has_bad_system_period : CreateTable → Bool
has_bad_system_period c =
    list_any (λ (x : SystemElement). is_other is_row_start c x.start || is_other is_row_end c x.end)
    c.system_periods

-- a generated column isn't a TIMESTAMP, or a plain one is; n isn't from 1 to 1000, or p isn't from
-- 0 to 12
unfoldable pub is_bad_type : TypeName → Bool → Bool
is_bad_type Integer generated = generated
is_bad_type Date generated = generated
is_bad_type (Varchar n) generated = generated || nat_lt n 1 || nat_lt most_code_points n
is_bad_type (Timestamp None) generated = not generated
is_bad_type (Timestamp (Some p)) generated = not generated || nat_lt greatest_precision p

-- a column has a bad type
unfoldable pub has_bad_column : CreateTable → Bool
has_bad_column c =
    list_any (λ (x : ColumnElement). is_bad_type x.kind (is_some x.generated)) c.columns

-- the period of the key or of a reference isn't the application period of its table
unfoldable pub is_used_otherwise : CreateTable → Name → Bool
is_used_otherwise c period =
    list_any (λ (x : KeyElement). not (bytes_eq x.period period)) c.keys
    || list_any (λ (x : ReferenceElement). not (bytes_eq x.period period)) c.references

-- some key or reference is over another period than its table's
unfoldable pub has_other_period : List TableDef → CreateTable → Bool
has_other_period catalog c =
    list_any (λ (x : PeriodElement). is_used_otherwise c x.name) c.periods
    || list_any (λ (x : ReferenceElement). names_other_period catalog x) c.references

-- the referenced columns aren't the parent's key columns, in some order; a column that is repeated
-- is 26
unfoldable pub names_no_key : List TableDef → ReferenceElement → Bool
names_no_key catalog x =
    passes (λ (t : TableDef). not (are_key_places t (parent_places t x))) (parent_of catalog x)

-- some reference does
unfoldable pub references_no_key : List TableDef → CreateTable → Bool
references_no_key catalog c =
    list_any (λ (x : ReferenceElement). names_no_key catalog x) c.references

-- one of the conditions above holds
unfoldable pub is_bad_definition : List TableDef → CreateTable → Bool
is_bad_definition catalog c =
    lacks_one_of_each c
    || has_bad_period c
    || has_bad_system_period c
    || has_bad_column c
    || has_other_period catalog c
    || references_no_key catalog c

-- 29: the two lists of a reference are of unequal length
unfoldable pub has_unequal_lists : CreateTable → Bool
has_unequal_lists c =
    list_any (λ (x : ReferenceElement). not (length x.columns == length x.parent_columns))
    c.references

-- 30: a column of a reference and its parent's at the same place are of two kinds
unfoldable pub names_other_kind : List TableDef → CreateTable → ReferenceElement → Bool
names_other_kind catalog c x =
    passes
    (λ (t : TableDef).
    have_two_kinds (columns_of c) t.columns (own_places c x.columns) (parent_places t x))
    (parent_of catalog x)

-- some reference has such columns
unfoldable pub references_other_kind : List TableDef → CreateTable → Bool
references_other_kind catalog c =
    list_any (λ (x : ReferenceElement). names_other_kind catalog c x) c.references

-- ==== the whole ====

-- the refusals that names alone decide, each with its condition
abbrev pub named_conditions : List TableDef → CreateTable → List RefusalCondition
named_conditions catalog c =
    (LimitReached, exceeds_limits catalog c)
    ∷ (TableExists, is_there catalog c.name)
    ∷ (UnknownTable, lacks_parent catalog c)
    ∷ (UnknownColumn, lacks_name catalog c)
    ∷ (AmbiguousColumn, is_ambiguous catalog c)
    ∷ (DuplicateName, repeats_name c)
    ∷ (PeriodColumn, keys_period_column c)
    ∷ []

-- the refusals that need the places of names, each with its condition
abbrev pub placed_conditions : List TableDef → CreateTable → List RefusalCondition
placed_conditions catalog c =
    (BadDefinition, is_bad_definition catalog c)
    ∷ (ColumnCount, has_unequal_lists c)
    ∷ (TypeMismatch, references_other_kind catalog c)
    ∷ []

-- all refusals that CREATE may get, each with its condition
abbrev pub create_conditions : List TableDef → CreateTable → List RefusalCondition
create_conditions catalog c = named_conditions catalog c ++ placed_conditions catalog c
