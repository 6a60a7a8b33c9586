-- Names in a select: which tables its conditions and its select list see, and which columns a name
-- matches there.
use Rattle.std.specs.Prelude.{◌++◌, ◌&&◌, ℕ, Bool, true, List, [], ◌∷◌, Option, Some, None}
use Rattle.std.specs.Prelude.{bytes_eq, flat_map, map}
use Rattle.std.specs.List.{enumerate_from}
use Rattle.sql_statements.specs.Trees.{Condition, Join, JoinChain, Select}
use Rattle.sql_statements.specs.declared.statement.ColumnReference.{ColumnReference}
use Rattle.sql_statements.specs.declared.statement.Compare.{Compare}
use Rattle.sql_statements.specs.declared.statement.TableReference.{TableReference}
use Rattle.catalog_core.specs.table.Naming.{Name, known_name}
use Rattle.catalog_core.specs.table.TableWords.{is_value_column, table_of_name}
use Rattle.catalog_core.specs.declared.table.Column.{Column}
use Rattle.catalog_core.specs.declared.table.TableDef.{TableDef}

-- ---- the tables and columns that are seen

-- the tables of a chain and of a select, in the order of the text
abbrev pub chain_tables : JoinChain → List TableReference
chain_tables chain = chain.first ∷ map (λ (join : Join). join.reference) chain.joins

-- the tables of a select, chain by chain
abbrev pub tables_of : Select → List TableReference
tables_of select = flat_map chain_tables select.chains

-- the scope of a place in a select: some tables, which come after earlier ones of the same select
pub record Scope : Type 0 where
  pub before : List TableReference
  pub seen : List TableReference

-- WHERE and the select list see all tables
abbrev pub whole_scope : Select → Scope
whole_scope select = record { before = []; seen = tables_of select }

-- a condition with what it sees
abbrev pub ScopedCondition : Type 0
ScopedCondition = Scope × Condition Compare

-- ON sees the tables of its own chain up to its right side
abbrev pub chain_conditions
    : List TableReference → List TableReference → List Join → List ScopedCondition
chain_conditions before seen [] = []
chain_conditions before seen (join ∷ joins) =
    (record { before = before; seen = seen ++ join.reference ∷ [] }, join.condition)
    ∷ chain_conditions before (seen ++ join.reference ∷ []) joins

-- the conditions of ON of some chains, which come after other tables
abbrev pub on_conditions : List TableReference → List JoinChain → List ScopedCondition
on_conditions before [] = []
on_conditions before (chain ∷ chains) =
    chain_conditions before (chain.first ∷ []) chain.joins
    ++ on_conditions (before ++ chain_tables chain) chains

-- the condition of WHERE, if there is one
abbrev pub where_conditions : Scope → Option (Condition Compare) → List ScopedCondition
where_conditions scope None = []
where_conditions scope (Some condition) = (scope, condition) ∷ []

-- the conditions of a select: those after ON, then the one after WHERE
abbrev pub conditions_in : Select → List ScopedCondition
conditions_in select =
    on_conditions [] select.chains ++ where_conditions (whole_scope select) select.condition

-- ---- the columns that a name matches

-- a declared column of a table that is seen, with its place in the table
pub record SeenColumn : Type 0 where
  pub known_as : Name
  pub table : TableDef
  pub place : ℕ
  pub column : Column

-- the columns of a table that is known by a name; of one that is missing none
abbrev pub declared_columns : Name → Option TableDef → List SeenColumn
declared_columns name None = []
declared_columns name (Some table) =
    map
    (λ (c : ℕ × Column).
    record { known_as = name; table = table; place = c.0; column = c.1 })
    (enumerate_from 0 table.columns)

-- the columns of a table that is known by its own name
abbrev pub own_columns : TableDef → List SeenColumn
own_columns table = declared_columns table.name (Some table)

-- the columns of the tables
abbrev pub seen_columns : List TableDef → List TableReference → List SeenColumn
seen_columns catalog tables =
    flat_map
    (λ (r : TableReference). declared_columns (known_name r) (table_of_name catalog r.table))
    tables

-- the name before a column is that by which its table is known
abbrev pub is_qualified : Option Name → Name → Bool
is_qualified None name = true
is_qualified (Some qualifier) name = bytes_eq qualifier name

-- a reference names a column
abbrev pub names_column : ColumnReference → SeenColumn → Bool
names_column reference seen =
    is_qualified reference.qualifier seen.known_as && bytes_eq reference.name seen.column.name

-- a column that rows have a value for
abbrev pub has_value : SeenColumn → Bool
has_value seen = is_value_column seen.table (seen.place, seen.column)
