-- The list of a store: the records of its clock and of its tables.
use Rattle.std.specs.Prelude.{◌+◌, ◌++◌, ◌∷◌, ℕ, ℤ, Bool, List, [], Option, Some, None, codes}
use Rattle.std.specs.Prelude.{false, flat_map, if◌then◌else◌, length, map, slice_get}
use Rattle.std.specs.Prelude.{slice_index, true, ◌<◌, ◌≡◌}
use Rattle.std.specs.Fmt.{decimal}
use Rattle.std.specs.List.{zip}
use Rattle.period_core.specs.Moments.{moment_text}
use Rattle.catalog_core.specs.declared.table.Column.{Column}
use Rattle.catalog_core.specs.declared.table.ColumnKind.{ColumnKind}
use Rattle.catalog_core.specs.declared.table.ColumnKind.TheVariants.{Integer, Varchar, Date}
use Rattle.catalog_core.specs.declared.table.ColumnKind.TheVariants.{RowStart, RowEnd}
use Rattle.catalog_core.specs.declared.table.Reference.{Reference}
use Rattle.catalog_core.specs.declared.table.TableDef.{TableDef}
use Rattle.catalog_core.specs.table.TableWords.{table_of}
use Rattle.history_model.specs.Histories.{History, catalog_of, clock_of}
use Rattle.history_model.specs.HistoryVersions.{versions_of}

-- a field after the first
abbrev pub next_field : List ℕ → List ℕ
next_field field = codes "," ++ field

-- a record: its kind and its fields, with commas between them, and a line feed at its end. No name,
-- number, moment or kind of a column has a byte that calls for quotes
abbrev pub record_line : List ℕ → List (List ℕ) → List ℕ
record_line kind fields = kind ++ (flat_map next_field fields ++ codes "\n")

-- the clock
abbrev pub clock_line : ℤ → List ℕ
clock_line clock = record_line (codes "clock") (moment_text clock ∷ [])

-- the kind of a column
abbrev pub kind_text : ColumnKind → List ℕ
kind_text Integer = codes "INTEGER"
kind_text (Varchar most) = codes "VARCHAR(" ++ (decimal most ++ codes ")")
kind_text Date = codes "DATE"
kind_text (RowStart precision) = codes "ROW START"
kind_text (RowEnd precision) = codes "ROW END"

-- the column at which the system time begins
abbrev pub is_row_start : ColumnKind → Bool
is_row_start (RowStart precision) = true
is_row_start _ = false

-- the column at which it ends
abbrev pub is_row_end : ColumnKind → Bool
is_row_end (RowEnd precision) = true
is_row_end _ = false

-- the name of a column; nothing if there is none
abbrev pub column_name : Option Column → List ℕ
column_name None = []
column_name (Some column) = column.name

-- the name of the column at a place of a table
abbrev pub name_at : TableDef → ℕ → List ℕ
name_at table place = column_name (slice_get table.columns place)

-- the name of the first column of such a kind
abbrev pub name_of_kind : (ColumnKind → Bool) → List Column → List ℕ
name_of_kind is_such [] = []
name_of_kind is_such (column ∷ columns) =
    if is_such column.kind then column.name else name_of_kind is_such columns

-- a column of the table of a number
abbrev pub column_line : ℕ → Column → List ℕ
column_line n column =
    record_line (codes "column") (decimal n ∷ column.name ∷ kind_text column.kind ∷ [])

-- a period, with the names of its two columns
abbrev pub period_line : ℕ → List ℕ → List ℕ → List ℕ → List ℕ
period_line n name start end =
    record_line (codes "period") (decimal n ∷ name ∷ start ∷ end ∷ [])

-- the application period and the system time
abbrev pub period_lines : ℕ → TableDef → List ℕ
period_lines n table =
    period_line n table.period.name
    (name_at table table.period.start) (name_at table table.period.end)
    ++ period_line n (codes "SYSTEM_TIME")
    (name_of_kind is_row_start table.columns) (name_of_kind is_row_end table.columns)

-- the key
abbrev pub key_line : ℕ → TableDef → List ℕ
key_line n table = record_line (codes "key") (decimal n ∷ map (name_at table) table.key)

-- a column of a child, and the one of its parent to which it refers
abbrev pub pair_names : TableDef → TableDef → ℕ × ℕ → List (List ℕ)
pair_names child parent (own, key) = name_at child own ∷ name_at parent key ∷ []

-- a reference of a table to its parent; nothing if there is none
abbrev pub reference_line : ℕ → TableDef → Reference → Option TableDef → List ℕ
reference_line n child reference None = []
reference_line n child reference (Some parent) =
    record_line (codes "reference") (decimal n ∷ parent.name
    ∷ flat_map (pair_names child parent) (zip reference.own reference.keys))

-- the references of a table
abbrev pub references_lines : List TableDef → ℕ → TableDef → List Reference → List ℕ
references_lines tables n child references =
    flat_map (λ (r : Reference). reference_line n child r (table_of tables r.parent)) references

-- the table of a number: how many versions it has, its columns, periods, key and references
abbrev pub table_lines : List TableDef → ℕ → TableDef → ℕ → List ℕ
table_lines tables n table versions =
    record_line (codes "table") (decimal n ∷ table.name ∷ decimal versions ∷ [])
    ++ (flat_map (column_line n) table.columns
    ++ (period_lines n table
    ++ (key_line n table ++ references_lines tables n table table.references)))

-- the tables of a catalog from the one of a number on, by how many versions each has
abbrev pub tables_lines : List TableDef → (ℕ → ℕ) → ℕ → List TableDef → List ℕ
tables_lines tables versions n [] = []
tables_lines tables versions n (table ∷ rest) =
    table_lines tables n table (versions n) ++ tables_lines tables versions (n + 1) rest

-- the clock and the tables of a catalog, by how many versions each has
abbrev pub listing_text : List TableDef → ℤ → (ℕ → ℕ) → List ℕ
listing_text tables clock versions = clock_line clock ++ tables_lines tables versions 1 tables

-- the number of versions that a history leaves of the table of a number
abbrev pub version_count : History → ℕ → ℕ
version_count history number = length (versions_of history number)

-- the list of a store that represents the history
abbrev pub listing_of : History → List ℕ
listing_of history =
    listing_text (catalog_of history) (clock_of history) (version_count history)

-- the numbers are, in the order of the history's tables, how many versions it leaves of each
abbrev pub AreCountsOf : History → List ℕ → Type 0
AreCountsOf history counts =
    (place : ℕ) → place < length (catalog_of history)
    → slice_index counts place ≡ version_count history (place + 1)
