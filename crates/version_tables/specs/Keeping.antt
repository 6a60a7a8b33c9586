-- The other tables after the three, which a change of the three leaves as they were.
use Rattle.std.specs.Prelude.{◌≡◌, List, drop}
use Rattle.sqlite.specs.Change.{KeepsRows}
use Rattle.sqlite.specs.Effect.{Database}
use Rattle.sqlite.specs.Held.{Held, state}
use Rattle.sqlite.specs.Schema.{Schema}
use Rattle.sqlite.specs.State.{HasCleanDisk}
use Rattle.sqlite.specs.Store.{Ghosts}
use Rattle.sqlite.specs.Table.{Table}
use Rattle.version_tables.specs.Tables.{HasStoreTables}

-- the other tables, which follow the first three
abbrev pub following_tables : Schema → List Table
following_tables schema = drop 3 schema.tables

-- the database has the other tables, indexes and views that it had, with the rows that they had
pub record KeepsOthers (old new : Database) : Type 0 where
  pub schema_is : new.schema ≡ old.schema
  pub others : KeepsRows (following_tables old.schema) old.trees new.trees

-- the other tables of a store's database stay, if the disk has returned what was written
abbrev pub LeavesOthers : {S : Type 0} → Ghosts S → Held S → Held S → Type 0
LeavesOthers g old new =
    HasCleanDisk (state g new) → HasStoreTables (state g old).now.schema
    → KeepsOthers (state g old).now (state g new).now
