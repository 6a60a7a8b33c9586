-- The versions that a query gives one at a time, and the text of the query.
use Rattle.std.specs.Prelude.{◌&&◌, ℕ, ℤ, pos, Bool, true, List, [], ◌∷◌, filter, int_lt}
use Rattle.std.specs.Ordering.{int_eq}
use Rattle.sqlite.specs.declared.types.Value.TheVariants.{Int}
use Rattle.sqlite.specs.Order.{Row}
use Rattle.version_tables.specs.Represents.{Version, of_table}
use Rattle.version_tables.specs.Texts.{ending_text, overlapping_text, version_rows_text}
use Rattle.version_tables.specs.Texts.{whole_text}
use Rattle.version_tables.specs.declared.selection.Selection.{Selection}
use Rattle.version_tables.specs.declared.selection.Selection.TheVariants.{Whole, EndingAt}
use Rattle.version_tables.specs.declared.selection.Selection.TheVariants.{Overlapping}

-- whether a version whose system time is from one moment on and before another is selected
abbrev pub selects : Selection → ℤ → ℤ → Bool
selects Whole from to = true
selects (EndingAt end) from to = int_eq to end
selects (Overlapping start end) from to = int_lt from end && int_lt start to

-- the versions of the table that are selected
abbrev pub selected : ℕ → Selection → List Version → List Version
selected table selection versions =
    filter (λ v. selects selection v.from v.to) (of_table table versions)

-- the text of the query of selected versions
abbrev pub select_text : Selection → List ℕ
select_text Whole = whole_text
select_text (EndingAt end) = ending_text
select_text (Overlapping start end) = overlapping_text

-- the parameters of the query of selected versions
abbrev pub select_given : ℕ → Selection → Row
select_given table Whole = Int (pos table) ∷ []
select_given table (EndingAt end) = Int (pos table) ∷ Int end ∷ []
select_given table (Overlapping start end) = Int (pos table) ∷ Int start ∷ Int end ∷ []

-- a query of versions: the selected versions of a table, in order, or the versions of all tables
pub data VersionQuery : Type 0 where
  OfTable : ℕ → Selection → VersionQuery
  OfAllTables : VersionQuery

-- the text of the query
abbrev pub query_text : VersionQuery → List ℕ
query_text (OfTable table selection) = select_text selection
query_text OfAllTables = version_rows_text

-- the parameters of the query
abbrev pub query_given : VersionQuery → Row
query_given (OfTable table selection) = select_given table selection
query_given OfAllTables = []
