-- The three tables that a schema has, their columns and the key of bt_version, whatever else it
-- has.
use Rattle.std.specs.Prelude.{◌≡◌, ◌&&◌, ℕ, Bool, true, List, [], ◌∷◌, None, Some, IsSome}
use Rattle.std.specs.Prelude.{codes, is_some}
use Rattle.std.specs.List.{Any, list_all, list_any}
use Rattle.sqlite.specs.Schema.{Schema}
use Rattle.sqlite.specs.Table.{Table}
use Rattle.sqlite_schema.specs.Names.{column_named, same_name, table_named}

-- the schema has none of the three tables
pub record HasNoStoreTable (s : Schema) : Type 0 where
  pub meta : table_named s (codes "bt_meta") ≡ None
  pub table : table_named s (codes "bt_table") ≡ None
  pub version : table_named s (codes "bt_version") ≡ None

-- the schema has all of the three tables
pub record HasEachStoreTable (s : Schema) : Type 0 where
  pub meta : IsSome (table_named s (codes "bt_meta"))
  pub table : IsSome (table_named s (codes "bt_table"))
  pub version : IsSome (table_named s (codes "bt_version"))

-- ---- the columns of the three tables

-- the columns of bt_meta
abbrev pub meta_columns : List (List ℕ)
meta_columns = codes "id" ∷ codes "form" ∷ codes "clock" ∷ []

-- the columns of bt_table
abbrev pub definition_columns : List (List ℕ)
definition_columns = codes "id" ∷ codes "def" ∷ []

-- the columns of bt_version
abbrev pub version_columns : List (List ℕ)
version_columns =
    codes "tab" ∷ codes "vals" ∷ codes "s" ∷ codes "e" ∷ codes "ss" ∷ codes "se" ∷ []

-- whether a table with the name exists and has the column
abbrev pub has_column : Schema → List ℕ → List ℕ → Bool
has_column s name column =
    list_any (λ t. same_name t.name name && is_some (column_named t column)) s.tables

-- whether it has each of the columns
abbrev pub has_columns : Schema → List ℕ → List (List ℕ) → Bool
has_columns s name columns = list_all (has_column s name) columns

-- whether each of the three tables has its columns
abbrev pub have_columns : Schema → Bool
have_columns s =
    has_columns s (codes "bt_meta") meta_columns
    && (has_columns s (codes "bt_table") definition_columns
    && has_columns s (codes "bt_version") version_columns)

-- ---- the key of bt_version

-- the table is named bt_version, and its primary key has the columns tab, vals, s and ss, which are
-- where the store has them
pub record IsKeyed (t : Table) : Type 0 where
  pub name : same_name t.name (codes "bt_version") ≡ true
  pub places : t.primary ≡ 1 ∷ 2 ∷ 3 ∷ 5 ∷ []
  pub table : column_named t (codes "tab") ≡ Some 0
  pub values : column_named t (codes "vals") ≡ Some 1
  pub start : column_named t (codes "s") ≡ Some 2
  pub from : column_named t (codes "ss") ≡ Some 4

-- a table with the name exists, and has the key that the store makes
abbrev pub HasVersionKey : Schema → Type 0
HasVersionKey s = Any IsKeyed s.tables
