-- The rows that a sequenced query is answered from, as its table references see them, and the
-- columns of its answer.
use Rattle.std.specs.Prelude.{◌≡◌, ◌↔◌, ℕ, ℤ, List, IsPermutation, Some, map, true}
use Rattle.std.specs.List.{AllByRecursion, AllZip}
use Rattle.period_core.specs.declared.row.PeriodRow.{PeriodRow}
use Rattle.period_core.specs.declared.value.Value.{Value}
use Rattle.period_core.specs.declared.version.VersionRow.{VersionRow}
use Rattle.period_core.specs.declared.window.Window.{Window}
use Rattle.temporal_model.specs.Snapshot.{InSnapshot}
use Rattle.catalog_core.specs.declared.query.AnswerColumn.{AnswerColumn}
use Rattle.catalog_core.specs.declared.query.resolved.QueryReference.{QueryReference}
use Rattle.catalog_core.specs.declared.table.TableDef.{TableDef}
use Rattle.catalog_core.specs.query.Fitting.{are_in_place}
use Rattle.catalog_core.specs.query.Queries.{Query, both, one, references_of}
use Rattle.statement_resolution.specs.query.Resolving.{value_kinds}
use Rattle.catalog_core.specs.table.TableWords.{table_of}
use Rattle.ended_versions.specs.Packed.{seen_through}
use Rattle.history_model.specs.Histories.{History}
use Rattle.history_model.specs.HistoryVersions.{AreVersionsOf}
use Rattle.history_model.specs.OrdinaryQuery.{VisibleInHistory}
use Rattle.history_model.specs.Versions.{row_of}
use Rattle.version_store.specs.Contents.{Contents, version_in}
use Rattle.version_store.specs.Scans.{seen_of}

-- the rows are the versions of the table that the window sees, as period rows, in any order
pub record AreRowsSeen (c : Contents) (table : ℕ) (window : Window) (rows : List PeriodRow) : Type 0
  where
    pub versions : List VersionRow
    pub all : IsPermutation (seen_of table window c.versions) (map (version_in table) versions)
    pub made : rows ≡ map row_of versions

-- on each day the rows hold what the reference sees through its window in the history
abbrev pub AreSeenBy : History → QueryReference → List PeriodRow → Type 0
AreSeenBy history reference rows =
    (day : ℤ) (values : List Value)
    → (InSnapshot rows day values ↔ VisibleInHistory history day reference values)

-- the reference sees these rows: of the versions that the history leaves of its table those that
-- its window sees, without their system times, each once and in any order; so the rows hold on each
-- day what it sees
pub record SeesRows (history : History) (reference : QueryReference) (rows : List PeriodRow)
    : Type 0 where
  pub versions : List VersionRow
  pub left : AreVersionsOf history reference.table versions
  pub all : IsPermutation (map row_of (seen_through reference.window versions)) rows
  pub daily : AreSeenBy history reference rows

-- each list has the rows that the reference in its place sees
abbrev pub EachSees : History → List QueryReference → List (List PeriodRow) → Type 0
EachSees history = AllZip (SeesRows history)

-- the select list that names the columns of a query's answer: its leftmost select has it
abbrev pub columns_of : Query → List AnswerColumn
columns_of (one select) = select.items
columns_of (both operator left right) = columns_of left

-- the reference is to a table of the catalog, with the kinds of its values
abbrev pub IsKnown : List TableDef → QueryReference → Type 0
IsKnown catalog reference =
    (table : TableDef) × (table_of catalog reference.table ≡ Some table)
    × (reference.kinds ≡ value_kinds table)

-- the query's references are such, in their places
pub record IsOfCatalog (catalog : List TableDef) (query : Query) : Type 0 where
  pub placed : are_in_place 0 (references_of query) ≡ true
  pub known : AllByRecursion (IsKnown catalog) (references_of query)
