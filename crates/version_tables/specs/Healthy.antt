-- Healthy databases: they take a change of the three tables unless memory or the disk fails.
use Rattle.std.specs.Prelude.{◌≡◌, ◌≤◌, ◌+◌, ◌*◌, ◌^◌, ◌++◌, ◌+ℤ◌, ◌≤ℤ◌, ℕ, ℤ, pos}
use Rattle.std.specs.Prelude.{false, List, drop, length}
use Rattle.std.specs.List.{AllByRecursion}
use Rattle.period_core.specs.Encoding.{greatest_integer, greatest_number, least_integer}
use Rattle.sqlite.specs.Edit.{id_in, next_rowid}
use Rattle.sqlite.specs.Effect.{Database, IsDatabase}
use Rattle.sqlite.specs.Order.{Row}
use Rattle.sqlite.specs.Schema.{Schema}
use Rattle.sqlite.specs.Tree.{IsAscending, IsTable, rowid}
use Rattle.sqlite_schema.specs.declared.schema.Index.{Index}
use Rattle.version_tables.specs.Represents.{Records, Version, same_key}

-- no index but the store's own is over one of the three tables
abbrev pub HasNoIndexOfOthers : Schema → Type 0
HasNoIndexOfOthers schema = AllByRecursion (λ (i : Index). 4 ≤ i.table) (drop 1 schema.indexes)

-- the rows are in the order of their rowids, which are integers of 64 bits, and so many integers
-- follow the last
pub record HaveRoomFor (count : ℕ) (rows : List Row) : Type 0 where
  pub rise : IsTable rows
  pub low : AllByRecursion (λ r. least_integer ≤ℤ id_in (rowid r)) rows
  pub high : AllByRecursion (λ r. (id_in (rowid r) +ℤ pos count) ≤ℤ greatest_integer) rows
  pub few : count ≤ greatest_number

-- the database obeys its schema, in which no other index is over the three tables, and bt_version
-- has room for so many versions more
pub record IsHealthy (count : ℕ) (db : Database) : Type 0 where
  pub sound : IsDatabase db
  pub bare : HasNoIndexOfOthers db.schema
  pub room : HaveRoomFor count (db.trees 2)

-- a row with these bytes and numbers is within the 10^9 bytes of a row, of which each of up to
-- seven columns takes up to 18, not counting its own bytes
abbrev pub IsShort : List ℕ → Type 0
IsShort bytes = 7 * 18 + length bytes ≤ 10 ^ 9

-- each version is short
abbrev pub AreShort : List Version → Type 0
AreShort = AllByRecursion (λ v. IsShort v.values)

-- no two of the versions have one key
abbrev pub HaveOwnKeys : List Version → Type 0
HaveOwnKeys = IsAscending (λ a b. same_key a b ≡ false)

-- versions that can be added to records: each is short, and no two of all have one key
pub record CanAdd (vs : List Version) (records : Records) : Type 0 where
  pub short : AreShort vs
  pub own : HaveOwnKeys (vs ++ records.versions)

-- the row that is added next gets this number, one above the last row's
abbrev pub IsNextNumber : ℤ → Database → Type 0
IsNextNumber n db = next_rowid (db.trees 2) ≡ n
