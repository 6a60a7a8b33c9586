-- The three tables, added after what a database has.
use Rattle.std.specs.Prelude.{◌≡◌, ℕ, ℤ, List, [], ◌∷◌, false, map}
use Rattle.std.specs.List.{AllByRecursion}
use Rattle.sqlite.specs.Change.{KeepsRows, created, next_tree}
use Rattle.sqlite.specs.Does.{lacks_sequence}
use Rattle.sqlite.specs.Effect.{Database}
use Rattle.sqlite.specs.Schema.{Schema}
use Rattle.version_tables.specs.Presence.{HasNoStoreTable}
use Rattle.version_tables.specs.Represents.{meta_row, meta_shown}
use Rattle.version_tables.specs.Tables.{definition_table, meta_table, version_table}

-- ---- the schema

-- a schema with bt_meta after its tables
abbrev pub with_meta : Schema → Schema
with_meta s = created s (meta_table 0)

-- a schema with bt_meta and bt_table after its tables
abbrev pub with_definitions : Schema → Schema
with_definitions s = created (with_meta s) (definition_table 0)

-- a schema with all three after its tables, and the index of bt_version
abbrev pub with_store_tables : Schema → Schema
with_store_tables s = created (with_definitions s) (version_table 0)

-- the tree of bt_meta: each table has the next tree that is free
abbrev pub meta_tree : Schema → ℕ
meta_tree = next_tree

-- the tree of bt_table
abbrev pub definition_tree : Schema → ℕ
definition_tree s = next_tree (with_meta s)

-- the tree of bt_version
abbrev pub version_tree : Schema → ℕ
version_tree s = next_tree (with_definitions s)

-- each table that counts its rowids has its counter, so that none is to be made
abbrev pub HasCounters : Schema → Type 0
HasCounters s = lacks_sequence s ≡ false

-- ---- the database

-- made of another, which has none of the three: its schema is this one, the tables that the other
-- had have the rows that they had there, and those that were made, in these trees, have none
pub record IsMadeOf (old : Database) (schema : Schema) (made : List ℕ) (db : Database)
    : Type 0 where
  pub absent : HasNoStoreTable old.schema
  pub counters : HasCounters old.schema
  pub schema_is : db.schema ≡ schema
  pub others : KeepsRows old.schema.tables old.trees db.trees
  pub empty : AllByRecursion (λ tree. db.trees tree ≡ []) made

-- the database has no table more
abbrev pub HasNone : Database → Database → Type 0
HasNone old = IsMadeOf old old.schema []

-- the database has bt_meta more
abbrev pub HasMeta : Database → Database → Type 0
HasMeta old = IsMadeOf old (with_meta old.schema) (meta_tree old.schema ∷ [])

-- the database has bt_meta and bt_table more
abbrev pub HasDefinitions : Database → Database → Type 0
HasDefinitions old =
    IsMadeOf old (with_definitions old.schema)
    (meta_tree old.schema ∷ definition_tree old.schema ∷ [])

-- the database has all three more
abbrev pub HasThree : Database → Database → Type 0
HasThree old =
    IsMadeOf old (with_store_tables old.schema)
    (meta_tree old.schema ∷ definition_tree old.schema ∷ version_tree old.schema ∷ [])

-- the three exist, after all other tables, with the form and the clock and no other row;
-- the other tables have the rows that they had
pub record IsBegunIn (form clock : ℤ) (old db : Database) : Type 0 where
  pub schema_is : db.schema ≡ with_store_tables old.schema
  pub others : KeepsRows old.schema.tables old.trees db.trees
  pub meta : map meta_shown (db.trees (meta_tree old.schema)) ≡ meta_row form clock ∷ []
  pub tables : db.trees (definition_tree old.schema) ≡ []
  pub versions : db.trees (version_tree old.schema) ≡ []
