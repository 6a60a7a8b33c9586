-- Sequenced queries with positions in place of names, as plain trees, and what their references
-- see.
use Rattle.std.specs.Prelude.{◌++◌, List, [], slice_index_or}
use Rattle.period_core.specs.declared.row.PeriodRow.{PeriodRow}
use Rattle.sql_statements.specs.declared.tree.SetOperator.{SetOperator}
use Rattle.catalog_core.specs.declared.query.resolved.Query as code
use Rattle.catalog_core.specs.declared.query.resolved.QueryReference.{QueryReference}
use Rattle.catalog_core.specs.declared.query.resolved.Select.{Select}

-- a tree of set operators over selects
pub data Query : Type 0 where
  one : Select → Query
  both : SetOperator → Query → Query → Query

-- the program's query
abbrev pub plain_query : code.Query → Query
plain_query (code.Select select) = one select
plain_query (code.Combined' operator p left q right) =
    both operator (plain_query left) (plain_query right)

-- the table references of a query, in the order of the text
abbrev pub references_of : Query → List QueryReference
references_of (one select) = select.references
references_of (both operator left right) = references_of left ++ references_of right

-- the rows that a reference sees: the list in its place
abbrev pub rows_for : List (List PeriodRow) → QueryReference → List PeriodRow
rows_for tables reference = slice_index_or tables reference.place []
