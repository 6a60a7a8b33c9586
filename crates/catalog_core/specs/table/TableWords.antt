-- Words on tables: numbers and definitions, what a name matches in one, and its value columns.
use Rattle.std.specs.Prelude.{◌+◌, ◌==◌, ◌&&◌, ℕ, zero, suc, Bool, true, false, not, List, Option}
use Rattle.std.specs.Prelude.{None, slice_get, map, filter, length, bytes_eq}
use Rattle.std.specs.List.{enumerate_from, list_any, position}
use Rattle.std.specs.Option.{option_and_then, option_map}
use Rattle.catalog_core.specs.table.Kinds.{kind_of_column, same_kind}
use Rattle.catalog_core.specs.table.Matches.{is_matching}
use Rattle.catalog_core.specs.table.Naming.{Name, find_among, matches_among, passes}
use Rattle.catalog_core.specs.table.Naming.{place_among}
use Rattle.catalog_core.specs.table.Naming.{some_match_among}
use Rattle.catalog_core.specs.declared.table.match_counts.MatchCount.{MatchCount}
use Rattle.catalog_core.specs.declared.table.match_counts.MatchCount.TheVariants.{Many}
use Rattle.catalog_core.specs.declared.table.Column.{Column}
use Rattle.catalog_core.specs.declared.table.ColumnKind.{ColumnKind}
use Rattle.catalog_core.specs.declared.table.ColumnKind.TheVariants.{Integer, Varchar, Date}
use Rattle.catalog_core.specs.declared.table.ColumnKind.TheVariants.{RowStart, RowEnd}
use Rattle.catalog_core.specs.declared.table.ValueKind.{ValueKind}
use Rattle.catalog_core.specs.declared.table.ValueKind.TheVariants as kind
use Rattle.catalog_core.specs.declared.table.TableDef.{TableDef}

-- the number of the table of this name, from 1 in the order of creation
unfoldable pub number_of : List TableDef → Name → Option ℕ
number_of catalog name =
    option_map (λ n. n + 1) (position (λ (t : TableDef). bytes_eq name t.name) catalog)

-- the table of this number
abbrev pub table_of : {T : Type 0} → List T → ℕ → Option T
table_of tables zero = None
table_of tables (suc n) = slice_get tables n

-- the table of this name
unfoldable pub table_of_name : List TableDef → Name → Option TableDef
table_of_name catalog name = option_and_then (table_of catalog) (number_of catalog name)

-- the number of a table's columns that a name matches
abbrev pub def_matches : TableDef → Name → ℕ
def_matches t name = matches_among (λ (x : Column). x.name) t.columns name

-- some of the names matches the wanted number of a table's columns
abbrev pub some_def_match : TableDef → MatchCount → List Name → Bool
some_def_match t wanted names = some_match_among (λ (x : Column). x.name) t.columns wanted names

-- no two columns share a name: none's matches several
unfoldable pub has_distinct_names : TableDef → Bool
has_distinct_names t =
    not (list_any (λ (x : Column). is_matching Many (def_matches t x.name)) t.columns)

-- the kind of the column with a name
unfoldable pub def_kind : TableDef → Name → Option ValueKind
def_kind t name =
    option_map (λ (x : Column). kind_of_column x.kind)
    (find_among (λ (x : Column). x.name) t.columns name)

-- the place of a column among the declared ones
abbrev pub def_place : TableDef → Name → Option ℕ
def_place t name = place_among (λ (x : Column). x.name) t.columns name

-- a system column's kind
abbrev pub is_system : ColumnKind → Bool
is_system Integer = false
is_system (Varchar n) = false
is_system Date = false
is_system (RowStart p) = true
is_system (RowEnd p) = true

-- the column at a place is a DATE column, and is found by its name
unfoldable pub is_date_column : TableDef → ℕ → Bool
is_date_column t place =
    passes
    (λ (x : Column).
    same_kind (kind_of_column x.kind) kind.Date
    && passes (λ named. named == place) (def_place t x.name))
    (slice_get t.columns place)

-- the application period is over two different DATE columns, each the first of its name
unfoldable pub has_date_period : TableDef → Bool
has_date_period t =
    not (t.period.start == t.period.end)
    && (is_date_column t t.period.start && is_date_column t t.period.end)

-- a declared column, with its place, that is no period column and no system column
unfoldable pub is_value_column : TableDef → ℕ × Column → Bool
is_value_column t (place, column) =
    not (place == t.period.start) && (not (place == t.period.end) && not (is_system column.kind))

-- the value columns in declared order, each with its place: a row has a value for each
abbrev pub value_columns : TableDef → List (ℕ × Column)
value_columns t = filter (is_value_column t) (enumerate_from 0 t.columns)

-- the names of the value columns
abbrev pub value_names : TableDef → List Name
value_names t = map (λ (c : ℕ × Column). c.1.name) (value_columns t)

-- the number of values of a row of the table
abbrev pub value_count : TableDef → ℕ
value_count t = length (value_columns t)
