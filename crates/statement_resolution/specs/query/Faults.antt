-- The faults of a sequenced query, collected over its parts: they are the conditions of its
-- refusals. Of a comparison also in a table.
use Rattle.std.specs.Prelude.{◌==◌, Bool, not, List, Option, Some, filter, is_none, length, map}
use Rattle.std.specs.Prelude.{slice_get}
use Rattle.std.specs.List.{list_any, zip}
use Rattle.std.specs.Option.{option_map}
use Rattle.sql_statements.specs.Trees.{Condition, Query, Select}
use Rattle.sql_statements.specs.declared.statement.ColumnReference.{ColumnReference}
use Rattle.sql_statements.specs.declared.statement.Compare.{Compare}
use Rattle.sql_statements.specs.declared.statement.Operand.{Operand}
use Rattle.sql_statements.specs.declared.statement.Operand.TheVariants as operand
use Rattle.sql_statements.specs.declared.statement.SelectItem.{SelectItem}
use Rattle.sql_statements.specs.declared.statement.TableReference.{TableReference}
use Rattle.statement_resolution.specs.Faults as judged
use Rattle.statement_resolution.specs.Faults.{either, faults_among, no_faults}
use Rattle.catalog_core.specs.table.Kinds.{differ, kind_of_column, kind_of_value}
use Rattle.catalog_core.specs.table.Naming.{repeats}
use Rattle.catalog_core.specs.table.TableWords.{table_of_name}
use Rattle.statement_resolution.specs.query.QueryParts.{selects_of, sides_of}
use Rattle.statement_resolution.specs.query.Scopes.{ScopedCondition, SeenColumn, conditions_in}
use Rattle.statement_resolution.specs.query.Scopes.{has_value}
use Rattle.statement_resolution.specs.query.Scopes.{names_column, seen_columns, tables_of}
use Rattle.catalog_core.specs.table.Naming.{known_name}
use Rattle.catalog_core.specs.table.Matches.{is_matching}
use Rattle.statement_resolution.specs.declared.faults.Faults.{Faults}
use Rattle.catalog_core.specs.declared.table.ValueKind.{ValueKind}
use Rattle.catalog_core.specs.declared.table.TableDef.{TableDef}
use Rattle.catalog_core.specs.declared.table.match_counts.MatchCount.{MatchCount}
use Rattle.catalog_core.specs.declared.table.match_counts.MatchCount.TheVariants.{Zero, Many}

-- ---- names, among the columns that are seen

-- the columns that a name matches
abbrev pub matches_among : List SeenColumn → ColumnReference → List SeenColumn
matches_among columns reference = filter (names_column reference) columns

-- the wanted number of columns matches
abbrev pub are_matching : MatchCount → List SeenColumn → Bool
are_matching wanted matches = is_matching wanted (length matches)

-- one of the matching columns is a period or system column, so that rows have no value for it
abbrev pub are_of_period : List SeenColumn → Bool
are_of_period matches = list_any (λ seen. not (has_value seen)) matches

-- a name's faults by its matches: nothing (24), several (25), a period or system column (27); a
-- table's name that is not known there, or a period's name in the place of a column, matches
-- nothing
unfoldable pub match_faults : List SeenColumn → Faults
match_faults matches = record no_faults {
  unknown = are_matching Zero matches;
  ambiguous = are_matching Many matches;
  period = are_of_period matches;
}

-- the kind of the first
abbrev pub match_kind : List SeenColumn → Option ValueKind
match_kind matches =
    option_map (λ (seen : SeenColumn). kind_of_column seen.column.kind) (slice_get matches 0)

-- ---- comparisons, by the columns that a name matches

-- the faults of a side of a comparison
abbrev pub side_faults : (ColumnReference → List SeenColumn) → Operand → Faults
side_faults matches (operand.Column column) = match_faults (matches column)
side_faults matches (operand.Literal value) = no_faults

-- the kind of a side: its column's, or its literal's
abbrev pub side_kind : (ColumnReference → List SeenColumn) → Operand → Option ValueKind
side_kind matches (operand.Column column) = match_kind (matches column)
side_kind matches (operand.Literal value) = Some (kind_of_value value)

-- the fault of sides of two kinds (30)
abbrev pub kind_faults : Bool → Faults
kind_faults other = record no_faults { kinds = other }

-- the faults of a comparison
unfoldable pub compare_faults : (ColumnReference → List SeenColumn) → Compare → Faults
compare_faults matches t =
    either (either (side_faults matches t.left) (side_faults matches t.right))
    (kind_faults (differ (side_kind matches t.left) (side_kind matches t.right)))

-- ---- conditions and items, among the columns that are seen

-- the faults of a condition
abbrev pub condition_faults : List SeenColumn → Condition Compare → Faults
condition_faults columns condition =
    judged.condition_faults (compare_faults (matches_among columns)) condition

-- the faults of an item of the select list
abbrev pub item_faults : List SeenColumn → SelectItem → Faults
item_faults columns item = match_faults (matches_among columns item.column)

-- ---- selects and queries

-- a table is missing
abbrev pub lacks_one : List TableDef → TableReference → Bool
lacks_one catalog reference = is_none (table_of_name catalog reference.table)

-- one of the tables is missing
abbrev pub lacks_any : List TableDef → List TableReference → Bool
lacks_any catalog tables = list_any (λ (r : TableReference). lacks_one catalog r) tables

-- the fault of tables of which one is missing (23)
abbrev pub missing_fault : Bool → Faults
missing_fault missing = record no_faults { table = missing }

-- two of them are known by one name
abbrev pub known_twice : List TableReference → Bool
known_twice tables = repeats (map known_name tables)

-- the faults of a select's tables: one is missing (23), or two are known by one name (26)
abbrev pub reference_faults : List TableDef → List TableReference → Faults
reference_faults catalog tables = record no_faults {
  table = lacks_any catalog tables;
  twice = known_twice tables;
}

-- the faults of a condition of a select, by what it sees
abbrev pub scoped_faults : List TableDef → ScopedCondition → Faults
scoped_faults catalog c = condition_faults (seen_columns catalog c.0.seen) c.1

-- the faults of a select: of its tables, its conditions, and its items, which see all tables
unfoldable pub select_faults : List TableDef → Select → Faults
select_faults catalog select =
    either (reference_faults catalog (tables_of select))
    (either (faults_among (scoped_faults catalog) (conditions_in select))
    (faults_among (item_faults (seen_columns catalog (tables_of select))) select.items))

-- the kinds of items, among the columns that are seen
abbrev pub item_kinds : List SeenColumn → List SelectItem → List (Option ValueKind)
item_kinds columns items =
    map (λ (item : SelectItem). match_kind (matches_among columns item.column)) items

-- the kinds of a select's columns
abbrev pub side_kinds : List TableDef → Select → List (Option ValueKind)
side_kinds catalog select = item_kinds (seen_columns catalog (tables_of select)) select.items

-- some columns in the same place are of two kinds
abbrev pub differ_somewhere : List (Option ValueKind) → List (Option ValueKind) → Bool
differ_somewhere left right =
    list_any (λ (kinds : Option ValueKind × Option ValueKind). differ kinds.0 kinds.1)
    (zip left right)

-- a set operator's faults by the kinds of both sides' columns: different numbers (29), or
-- columns of two kinds in one place (30)
abbrev pub kinds_faults : List (Option ValueKind) → List (Option ValueKind) → Faults
kinds_faults left right = record no_faults {
  count = not (length left == length right);
  kinds = differ_somewhere left right;
}

-- the faults of the two sides of a set operator, by their first selects
abbrev pub operand_faults : List TableDef → Select × Select → Faults
operand_faults catalog sides =
    kinds_faults (side_kinds catalog sides.0) (side_kinds catalog sides.1)

-- the faults of a query
abbrev pub query_faults : List TableDef → Query → Faults
query_faults catalog query =
    either (faults_among (select_faults catalog) (selects_of query))
    (faults_among (operand_faults catalog) (sides_of query))
