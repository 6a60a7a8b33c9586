-- The ordinary query on a day: the set of rows that it gives, by the sets that its table references
-- see on that day.
use Rattle.std.specs.Prelude.{◌≡◌, ◌++◌, ◌⊎◌, ℤ, Bool, IsTrue, List, [], ◌∷◌, Option, Some, map}
use Rattle.std.specs.Prelude.{slice_get}
use Rattle.std.specs.List.{list_all}
use Rattle.period_core.specs.declared.row.PeriodRow.{PeriodRow}
use Rattle.period_core.specs.declared.value.Value.{Value}
use Rattle.temporal_model.specs.Snapshot.{InSnapshot}
use Rattle.sql_statements.specs.declared.tree.SetOperator.{SetOperator}
use Rattle.sql_statements.specs.declared.tree.SetOperator.TheVariants.{Union, Except, Intersect}
use Rattle.sql_statements.specs.declared.tree.Tree.{Tree}
use Rattle.catalog_core.specs.Conditions.{meets}
use Rattle.catalog_core.specs.declared.condition.CompareValues.{CompareValues}
use Rattle.catalog_core.specs.declared.query.AnswerColumn.{AnswerColumn}
use Rattle.catalog_core.specs.declared.query.resolved.QueryReference.{QueryReference}
use Rattle.catalog_core.specs.declared.query.resolved.Select.{Select}
use Rattle.catalog_core.specs.query.Queries.{Query, one, both, rows_for}
use Rattle.history_model.specs.Histories.{History}
use Rattle.history_model.specs.SystemWindows.{SeesThrough}

-- for each table reference the set of rows that it sees
abbrev pub VisibleRows : Type 1
VisibleRows = QueryReference → List Value → Type 0

-- a combined row: the values of a row of each reference's set, one after the other
abbrev pub InProduct : VisibleRows → List QueryReference → List Value → Type 0
InProduct Sees [] values = values ≡ []
InProduct Sees (reference ∷ more) values =
    (first : List Value) × (rest : List Value)
    × Sees reference first × InProduct Sees more rest × (first ++ rest ≡ values)

-- each of the conditions holds
abbrev pub meets_all : List (Tree CompareValues) → List Value → Bool
meets_all conjuncts values = list_all (λ condition. meets condition values) conjuncts

-- the values that a select list reads in a row: at each item's position one, if the row has one
-- there
abbrev pub read_items : List AnswerColumn → List Value → List (Option Value)
read_items items values = map (λ (item : AnswerColumn). slice_get values item.position) items

-- the values of the select list: for each item the row has a value at its position, and this is it
abbrev pub IsProjection : List AnswerColumn → List Value → List Value → Type 0
IsProjection items values row = read_items items values ≡ map Some row

-- a select's set: the combined rows that meet every ON and WHERE, projected
abbrev pub InSelect : VisibleRows → Select → List Value → Type 0
InSelect Sees select row =
    (values : List Value)
    × InProduct Sees select.references values × IsTrue (meets_all select.conjuncts values)
    × IsProjection select.items values row

-- the set that a set operator gives of two sets
abbrev pub InCombined
    : SetOperator → (List Value → Type 0) → (List Value → Type 0) → List Value → Type 0
InCombined Union Left Right row = Left row ⊎ Right row
InCombined Except Left Right row = Left row × (Right row → ⊥)
InCombined Intersect Left Right row = Left row × Right row

-- a query's set
abbrev pub InQuery : VisibleRows → Query → List Value → Type 0
InQuery Sees (one select) row = InSelect Sees select row
InQuery Sees (both operator left right) row =
    InCombined operator (InQuery Sees left) (InQuery Sees right) row

-- ---- over lists of period rows

-- the rows that a reference sees on a day: the snapshot of the list in its place
abbrev pub VisibleInTables : List (List PeriodRow) → ℤ → VisibleRows
VisibleInTables tables day reference values = InSnapshot (rows_for tables reference) day values

-- the query's set on a day
abbrev pub InAnswerOver : Query → List (List PeriodRow) → ℤ → List Value → Type 0
InAnswerOver query tables day row = InQuery (VisibleInTables tables day) query row

-- ---- over a history

-- the rows that a reference sees on a day, through its window
abbrev pub VisibleInHistory : History → ℤ → VisibleRows
VisibleInHistory history day reference values =
    SeesThrough history reference.window day reference.table values

-- the query's set on a day
abbrev pub InAnswerOn : History → Query → ℤ → List Value → Type 0
InAnswerOn history query day row = InQuery (VisibleInHistory history day) query row
