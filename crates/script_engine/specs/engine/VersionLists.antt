-- Lists of versions: their columns, and which versions a stored query shows.
use Rattle.std.specs.Prelude.{◌==◌, ℕ, List, IsPermutation, IsSorted, filter, length, map}
use Rattle.std.specs.Prelude.{if◌then◌else◌, take}
use Rattle.std.specs.List.{enumerate_from}
use Rattle.period_core.specs.declared.version.VersionRow.{VersionRow}
use Rattle.catalog_core.specs.stored.StoredAnswers.{shown_versions}
use Rattle.catalog_core.specs.table.TableWords.{is_value_column}
use Rattle.catalog_core.specs.declared.stored.Stored.{Stored}
use Rattle.catalog_core.specs.declared.table.Column.{Column}
use Rattle.catalog_core.specs.declared.table.ColumnKind.{ColumnKind}
use Rattle.catalog_core.specs.declared.table.ColumnKind.TheVariants.{Date, Integer, Varchar}
use Rattle.catalog_core.specs.declared.table.ColumnKind.TheVariants.{RowEnd, RowStart}
use Rattle.catalog_core.specs.declared.table.TableDef.{TableDef}
use Rattle.version_store.specs.Contents.{Contents, of_table, version_cmp, version_in}
use Rattle.statement_reports.specs.declared.outcome.Cell.{Cell}
use Rattle.statement_reports.specs.declared.outcome.Cell.TheVariants.{End, From, Start, To}
use Rattle.statement_reports.specs.declared.outcome.Cell.TheVariants.{Value}
use Rattle.statement_reports.specs.declared.outcome.VersionColumn.{VersionColumn}

-- ---- columns

-- the position of the value that is declared at a place: the number of value columns before it
abbrev pub value_position : TableDef → ℕ → ℕ
value_position t place =
    length (filter (is_value_column t) (take place (enumerate_from 0 t.columns)))

-- the cell of a column that is no period column: a system column's is a moment, each other one's
-- the value at a position
abbrev pub cell_of_kind : ColumnKind → ℕ → Cell
cell_of_kind (RowStart p) position = From
cell_of_kind (RowEnd p) position = To
cell_of_kind Integer position = Value position
cell_of_kind (Varchar n) position = Value position
cell_of_kind Date position = Value position

-- the cell of a column that is declared at a place, if its value has this position
abbrev pub cell_at : TableDef → ℕ → ColumnKind → ℕ → Cell
cell_at t place kind position =
    if place == t.period.start then Start
    else (if place == t.period.end then End else cell_of_kind kind position)

-- a declared column with its place, as a column of a list of versions
abbrev pub version_column : TableDef → ℕ × Column → VersionColumn
version_column t (place, column) = record {
  name = column.name;
  cell = cell_at t place column.kind (value_position t place);
}

-- the columns of a table's versions: those that are declared, in their order
abbrev pub version_columns : TableDef → List VersionColumn
version_columns t = map (version_column t) (enumerate_from 0 t.columns)

-- ---- rows

-- the rows are the versions that the query shows, each once: by values, then period start,
-- then system start
pub record AreShown (query : Stored) (versions rows : List VersionRow) : Type 0 where
  pub all : IsPermutation (shown_versions query versions) rows
  pub sorted : IsSorted version_cmp (map (version_in query.table) rows)

-- the rows are those that the query shows of its table's versions in the store
abbrev pub AreShownIn : Contents → Stored → List VersionRow → Type 0
AreShownIn c query rows =
    (versions : List VersionRow)
    → IsPermutation (of_table query.table c.versions) (map (version_in query.table) versions)
    → AreShown query versions rows
