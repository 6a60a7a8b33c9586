-- For private functions: a query by positions, where a name without a position has 0, and so has a
-- table that is missing. No query that is accepted has such a name.
use Rattle.std.specs.Prelude.{◌≡◌, ◌+◌, ◌∷◌, ℕ, true, List, [], Option, None, Some, filter, length}
use Rattle.std.specs.Prelude.{map}
use Rattle.std.specs.List.{position}
use Rattle.std.specs.Option.{option_map}
use Rattle.sql_statements.specs.Trees as written
use Rattle.sql_statements.specs.Trees.{Condition, Select}
use Rattle.sql_statements.specs.declared.statement.ColumnReference.{ColumnReference}
use Rattle.sql_statements.specs.declared.statement.Compare.{Compare}
use Rattle.sql_statements.specs.declared.statement.SelectItem.{SelectItem}
use Rattle.sql_statements.specs.declared.statement.TableReference.{TableReference}
use Rattle.statement_resolution.specs.Faults.{either, no_faults}
use Rattle.statement_resolution.specs.Positions.{map_condition}
use Rattle.statement_resolution.specs.Placing.{or_zero, place_compare}
use Rattle.statement_resolution.specs.SystemWindows.{window_of}
use Rattle.statement_resolution.specs.query.Faults.{query_faults, side_kinds}
use Rattle.statement_resolution.specs.query.QueryParts.{first_select, selects_of}
use Rattle.statement_resolution.specs.query.Resolving.{Placed, ReferenceParts, ResolvesTree}
use Rattle.statement_resolution.specs.query.Resolving.{column_position, members, value_kinds}
use Rattle.statement_resolution.specs.query.Scopes.{Scope, ScopedCondition, SeenColumn, has_value}
use Rattle.catalog_core.specs.query.Fitting.{are_in_place}
use Rattle.catalog_core.specs.query.Queries.{plain_query, references_of}
use Rattle.catalog_core.specs.table.Naming.{name_or}
use Rattle.statement_resolution.specs.query.Scopes.{names_column, tables_of}
use Rattle.catalog_core.specs.table.Naming.{Name}
use Rattle.catalog_core.specs.table.TableWords.{number_of, table_of_name}
use Rattle.statement_resolution.specs.declared.faults.Faults.{Faults}
use Rattle.statement_resolution.specs.declared.query.sides.Side.{Side}
use Rattle.catalog_core.specs.declared.table.TableDef.{TableDef}
use Rattle.catalog_core.specs.declared.table.ValueKind.{ValueKind}

-- the columns that rows have a value for
abbrev pub values_among : List SeenColumn → List SeenColumn
values_among columns = filter has_value columns

-- the position of a named column, by the columns before those that are seen
abbrev pub place_among : List SeenColumn → List SeenColumn → ColumnReference → ℕ
place_among before seen reference =
    or_zero
    (option_map (λ n. length (values_among before) + n)
    (position (names_column reference) (values_among seen)))

-- the place of a column in the scope of a select
abbrev pub scope_place : List TableDef → Scope → ColumnReference → ℕ
scope_place catalog scope reference = or_zero (column_position catalog scope reference)

-- the members of a condition, by the places of columns
abbrev pub placed_members : (ColumnReference → ℕ) → Condition Compare → List Placed
placed_members place condition =
    map (map_condition (λ leaf. Some (place_compare place leaf))) (members condition)

-- the members of a condition of a select, by what it sees
abbrev pub scoped_members : List TableDef → ScopedCondition → List Placed
scoped_members catalog c = placed_members (scope_place catalog c.0) c.1

-- an item
abbrev pub placed_item : (ColumnReference → ℕ) → SelectItem → Option ℕ × Name
placed_item place item = (Some (place item.column), name_or item.new_name item.column.name)

-- the kinds of a table's values, and none of a table that is missing
abbrev pub kinds_of : Option TableDef → List ValueKind
kinds_of None = []
kinds_of (Some table) = value_kinds table

-- a table reference by its table's number
abbrev pub placed_reference : List TableDef → TableReference → ReferenceParts
placed_reference catalog r = (
  Some (or_zero (number_of catalog r.table)),
  window_of r.window,
  Some (kinds_of (table_of_name catalog r.table)),
)

-- ---- a query by positions, and its faults

-- the number of table references that selects have
abbrev pub table_count : List Select → ℕ
table_count [] = 0
table_count (select ∷ selects) = length (tables_of select) + table_count selects

-- a side is the query by positions, if it has no fault; its references have the places from one up
-- to another, and the query's faults are added to those before
pub record Converts
    (catalog : List TableDef)
    (query : written.Query)
    (place next : ℕ)
    (before after : Faults)
    (side : Side)
    : Type 0
  where
    pub same : query_faults catalog query ≡ no_faults
        → ResolvesTree catalog query (plain_query side.query)
    pub placed : are_in_place place (references_of (plain_query side.query)) ≡ true
    pub counted : place + length (references_of (plain_query side.query)) ≡ next
    pub tables : next ≡ place + table_count (selects_of query)
    pub kinds : side.kinds.items ≡ side_kinds catalog (first_select query)
    pub faults : after ≡ either before (query_faults catalog query)
