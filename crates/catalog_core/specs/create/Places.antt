-- Tests of columns, keys and references by places. CREATE TABLE is judged by them once each name
-- has its place, and the definitions of a store are too.
use Rattle.std.specs.Prelude.{◌==◌, ◌&&◌, ℕ, Bool, true, false, not, List, Option, Some, None}
use Rattle.std.specs.Prelude.{count_by, nat_lt, slice_get}
use Rattle.std.specs.List.{list_all, list_any, zip}
use Rattle.std.specs.Option.{option_map}
use Rattle.catalog_core.specs.table.Kinds.{differ, kind_of_column, same_kind}
use Rattle.catalog_core.specs.table.Naming.{passes}
use Rattle.catalog_core.specs.table.TableWords.{table_of}
use Rattle.catalog_core.specs.declared.table.Column.{Column}
use Rattle.catalog_core.specs.declared.table.ColumnKind.{ColumnKind}
use Rattle.catalog_core.specs.declared.table.ColumnKind.TheVariants.{Integer, Varchar, Date}
use Rattle.catalog_core.specs.declared.table.ColumnKind.TheVariants.{RowStart, RowEnd}
use Rattle.catalog_core.specs.declared.table.Reference.{Reference}
use Rattle.catalog_core.specs.declared.table.TableDef.{TableDef}
use Rattle.catalog_core.specs.declared.table.ValueKind.{ValueKind}
use Rattle.catalog_core.specs.declared.table.ValueKind.TheVariants as kind

-- ==== lists of places ====

-- the number of times that a place is in a list
abbrev pub place_count : ℕ → List ℕ → ℕ
place_count place places = count_by (λ other. other == place) places

-- some place is in it more than once
unfoldable pub repeats_place : List ℕ → Bool
repeats_place places = list_any (λ place. nat_lt 1 (place_count place places)) places

-- a place is in it
unfoldable pub has_place : List ℕ → ℕ → Bool
has_place places place = list_any (λ other. other == place) places

-- ==== columns ====

-- a ROW START column
abbrev pub is_row_start : ColumnKind → Bool
is_row_start Integer = false
is_row_start (Varchar n) = false
is_row_start Date = false
is_row_start (RowStart p) = true
is_row_start (RowEnd p) = false

-- a ROW END column
abbrev pub is_row_end : ColumnKind → Bool
is_row_end Integer = false
is_row_end (Varchar n) = false
is_row_end Date = false
is_row_end (RowStart p) = false
is_row_end (RowEnd p) = true

-- there is one column of each system sort
unfoldable pub has_system_columns : List Column → Bool
has_system_columns columns =
    (count_by (λ (x : Column). is_row_start x.kind) columns == 1)
    && (count_by (λ (x : Column). is_row_end x.kind) columns == 1)

-- the kind of the column at a place, as it is declared
unfoldable pub declared_at : List Column → Option ℕ → Option ColumnKind
declared_at columns None = None
declared_at columns (Some place) = option_map (λ (x : Column). x.kind) (slice_get columns place)

-- the kind of the column at a place, by which it is compared
unfoldable pub kind_at : List Column → ℕ → Option ValueKind
kind_at columns place = option_map kind_of_column (declared_at columns (Some place))

-- the column at a place is a DATE column
unfoldable pub is_date_place : List Column → ℕ → Bool
is_date_place columns place = passes (λ found. same_kind found kind.Date) (kind_at columns place)

-- two places are those of two different DATE columns
unfoldable pub are_dates : List Column → Option ℕ → Option ℕ → Bool
are_dates columns (Some start) (Some end) =
    not (start == end) && (is_date_place columns start && is_date_place columns end)
are_dates columns _ _ = false

-- ==== references ====

-- the places are those of a table's key, in some order
unfoldable pub are_key_places : TableDef → List ℕ → Bool
are_key_places t places = list_all (has_place t.key) places && list_all (has_place places) t.key

-- columns at the same place of two lists of places are of two kinds
unfoldable pub have_two_kinds : List Column → List Column → List ℕ → List ℕ → Bool
have_two_kinds columns others own keys =
    list_any (λ (p : ℕ × ℕ). differ (kind_at columns p.0) (kind_at others p.1)) (zip own keys)

-- a reference is to other columns than its parent's key
unfoldable pub refers_to_no_key : List TableDef → Reference → Bool
refers_to_no_key tables r =
    passes (λ (t : TableDef). not (are_key_places t r.keys)) (table_of tables r.parent)

-- a reference, of a table with such columns, is to columns of other kinds
unfoldable pub refers_to_other_kind : List TableDef → List Column → Reference → Bool
refers_to_other_kind tables columns r =
    passes (λ (t : TableDef). have_two_kinds columns t.columns r.own r.keys)
    (table_of tables r.parent)
