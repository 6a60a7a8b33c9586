-- A sequenced query: the refusals that it may get, and what it is with positions for names.
use Rattle.std.specs.Prelude.{◌≡◌, ◌+◌, ℕ, true, List, [], ◌∷◌, Option, Some, filter}
use Rattle.std.specs.Prelude.{flat_map, length, map}
use Rattle.std.specs.List.{position}
use Rattle.std.specs.Option.{option_map}
use Rattle.period_core.specs.declared.window.Window.{Window}
use Rattle.sql_statements.specs.Plain.{plain_condition}
use Rattle.sql_statements.specs.Trees as written
use Rattle.sql_statements.specs.Trees.{Condition, Conditions, Statement}
use Rattle.sql_statements.specs.Trees.{all, any, more, negated, none, sequenced, test}
use Rattle.sql_statements.specs.declared.statement.ColumnReference.{ColumnReference}
use Rattle.sql_statements.specs.declared.statement.SelectItem.{SelectItem}
use Rattle.sql_statements.specs.declared.statement.TableReference.{TableReference}
use Rattle.sql_statements.specs.declared.tree.Tree.{Tree}
use Rattle.catalog_core.specs.RefusalConditions.{RefusalCondition}
use Rattle.statement_resolution.specs.Positions.{compare_by, map_condition}
use Rattle.statement_resolution.specs.SystemWindows.{window_of}
use Rattle.catalog_core.specs.query.Fitting.{are_in_place}
use Rattle.catalog_core.specs.query.Queries.{Query, both, one, references_of}
use Rattle.statement_resolution.specs.query.Refusals.{refusals_of}
use Rattle.statement_resolution.specs.query.Scopes.{Scope, ScopedCondition, SeenColumn}
use Rattle.statement_resolution.specs.query.Scopes.{conditions_in}
use Rattle.statement_resolution.specs.query.Scopes.{has_value, names_column, seen_columns}
use Rattle.catalog_core.specs.table.Naming.{name_or}
use Rattle.statement_resolution.specs.query.Scopes.{tables_of, whole_scope}
use Rattle.catalog_core.specs.query.Selection.{item_parts}
use Rattle.catalog_core.specs.table.Kinds.{kind_of_column}
use Rattle.catalog_core.specs.table.Naming.{Name}
use Rattle.catalog_core.specs.table.TableWords.{number_of, table_of_name, value_columns}
use Rattle.catalog_core.specs.declared.condition.CompareValues.{CompareValues}
use Rattle.catalog_core.specs.declared.query.resolved.QueryReference.{QueryReference}
use Rattle.catalog_core.specs.declared.query.resolved.Select.{Select}
use Rattle.catalog_core.specs.declared.table.Column.{Column}
use Rattle.catalog_core.specs.declared.table.TableDef.{TableDef}
use Rattle.catalog_core.specs.declared.table.ValueKind.{ValueKind}

-- ---- positions

-- the columns of some tables that rows have a value for: a combined row has their values, one
-- after the other
abbrev pub seen_values : List TableDef → List TableReference → List SeenColumn
seen_values catalog tables = filter has_value (seen_columns catalog tables)

-- the position of a named column in the combined row of the select
abbrev pub column_position : List TableDef → Scope → ColumnReference → Option ℕ
column_position catalog scope reference =
    option_map (λ n. length (seen_values catalog scope.before) + n)
    (position (names_column reference) (seen_values catalog scope.seen))

-- ---- conditions

-- the parts of an AND or an OR as a list
abbrev pub list_of : {T : Type 0} → Conditions T → List (Condition T)
list_of none = []
list_of (more part parts) = part ∷ list_of parts

-- the members of a condition's outermost AND; an OR of one part is that part
abbrev pub members : {T : Type 0} → Condition T → List (Condition T)
members (all parts) = list_of parts
members (any (more part none)) = members part
members (any parts) = any parts ∷ []
members (negated part) = negated part ∷ []
members (test leaf) = test leaf ∷ []

-- a condition by positions, if each column has one
abbrev pub Placed : Type 0
Placed = Condition (Option CompareValues)

-- the members of a condition of a select, by positions
abbrev pub written_members : List TableDef → ScopedCondition → List Placed
written_members catalog c =
    map (map_condition (compare_by (column_position catalog c.0))) (members c.1)

-- the conjuncts of all conditions of a select
abbrev pub written_conjuncts : List TableDef → written.Select → List Placed
written_conjuncts catalog select = flat_map (written_members catalog) (conditions_in select)

-- the parts of a conjunct of a resolved select
abbrev pub conjunct_parts : Tree CompareValues → Placed
conjunct_parts condition = map_condition (λ leaf. Some leaf) (plain_condition condition)

-- ---- references

-- the kinds of a table's values
abbrev pub value_kinds : TableDef → List ValueKind
value_kinds table = map (λ (c : ℕ × Column). kind_of_column c.1.kind) (value_columns table)

-- a reference by its table's number, its window and the kinds of its values
abbrev pub ReferenceParts : Type 0
ReferenceParts = Option ℕ × Window × Option (List ValueKind)

-- the parts of a table reference as it is written
abbrev pub written_reference : List TableDef → TableReference → ReferenceParts
written_reference catalog r = (
  number_of catalog r.table,
  window_of r.window,
  option_map value_kinds (table_of_name catalog r.table),
)

-- the parts of a reference of a resolved select
abbrev pub reference_parts : QueryReference → ReferenceParts
reference_parts r = (Some r.table, r.window, Some r.kinds)

-- ---- selects

-- an item as it is written: the position of its column, and its name, which is its new name or else
-- the column's
abbrev pub written_item : List TableDef → written.Select → SelectItem → Option ℕ × Name
written_item catalog select item = (
  column_position catalog (whole_scope select) item.column,
  name_or item.new_name item.column.name,
)

-- a select with positions for names
pub record ResolvesSelect (catalog : List TableDef) (s : written.Select) (select : Select) : Type 0
  where
    pub references : map (written_reference catalog) (tables_of s)
        ≡ map reference_parts select.references
    pub conjuncts : written_conjuncts catalog s ≡ map conjunct_parts select.conjuncts
    pub items : map (written_item catalog s) s.items ≡ map item_parts select.items

-- ---- queries

-- a tree with positions for names: set operators apply from left to right
abbrev mutual
  pub ResolvesTree : List TableDef → written.Query → Query → Type 0
  ResolvesTree catalog (written.simple s) (one select) = ResolvesSelect catalog s select
  ResolvesTree catalog (written.simple s) (both operator left right) = ⊥
  ResolvesTree catalog (written.combined first steps) query =
      (left : Query) × ResolvesTree catalog first left × ResolvesSteps catalog left steps query

  -- the query that these steps give, from the query on their left
  pub ResolvesSteps : List TableDef → Query → written.Steps → Query → Type 0
  ResolvesSteps catalog left written.last query = left ≡ query
  ResolvesSteps catalog left (written.step operator next steps) query =
      (right : Query) × ResolvesTree catalog next right
      × ResolvesSteps catalog (both operator left right) steps query

-- a query with positions for names, whose references have their places in the order of the text
pub record ResolvesSequenced (catalog : List TableDef) (written : written.Query) (query : Query)
    : Type 0
  where
    pub same : ResolvesTree catalog written query
    pub placed : are_in_place 0 (references_of query) ≡ true

-- ---- statements

-- the statement is a sequenced query
abbrev pub IsSequenced : Statement → Type 0
IsSequenced (sequenced query) = Unit {0}
IsSequenced _ = ⊥

-- the refusals that a statement may get as a sequenced query; another statement has none
abbrev pub query_conditions : List TableDef → Statement → List RefusalCondition
query_conditions catalog (sequenced query) = refusals_of catalog query
query_conditions catalog _ = []

-- the query that a statement asks, with positions for names; other statements ask none
abbrev pub ResolvesQuery : List TableDef → Statement → Query → Type 0
ResolvesQuery catalog (sequenced written) query = ResolvesSequenced catalog written query
ResolvesQuery catalog _ query = ⊥
