-- A query of versions, whose rows are given one at a time.
use Rattle.std.specs.Prelude.{◌≡◌, ℕ, false, List, [], ◌∷◌, ◌++◌, map, Option, Some, None}
use Rattle.std.specs.Prelude.{IsPermutation, IsSorted, IsTrue, Result}
use Rattle.sqlite.specs.Store.{Ghosts}
use Rattle.sqlite.specs.Effect.{Database}
use Rattle.sqlite.specs.Order.{Row}
use Rattle.sqlite.specs.Given.{HasGiven}
use Rattle.sqlite.specs.Held.{Held, state}
use Rattle.sqlite.specs.State.{HasCleanDisk, IsUnchanged}
use Rattle.sqlite.specs.declared.error.Error.{Error}
use Rattle.version_tables.specs.Represents.{Records, Represents, Version, shown, version_cmp}
use Rattle.version_tables.specs.Represents.{version_shown}
use Rattle.version_tables.specs.Selections.{VersionQuery, OfAllTables, OfTable, query_given}
use Rattle.version_tables.specs.Selections.{query_text, selected}
use Rattle.version_tables.specs.Steps.{FailsWithReason, Keeps, KeepsFaults}
use Rattle.version_tables.specs.Tables.{HasStoreTables}
use Rattle.version_tables.specs.declared.selection.Selection.{Selection}

-- the selected versions of the table, each once and in order
pub record AreSelected (records : Records) (table : ℕ) (selection : Selection)
    (found : List Version) : Type 0 where
  pub all : IsPermutation (selected table selection records.versions) found
  pub sorted : IsSorted version_cmp found

-- the rows show these versions
abbrev pub AreShown : Records → ℕ → Selection → List Row → Type 0
AreShown records table selection rows =
    (found : List Version) × (rows ≡ map shown found) × AreSelected records table selection found

-- the rows are those of bt_version, in some order
abbrev pub AreVersions : Database → List Row → Type 0
AreVersions db rows = IsPermutation (map version_shown (db.trees 2)) rows

-- the rows are the first that the query shows
abbrev pub AreFirst : Database → VersionQuery → List Row → Type 0
AreFirst db (OfTable table selection) given =
    (records : Records) → Represents db records
    → (more : List Row) × AreShown records table selection (given ++ more)
AreFirst db OfAllTables given =
    HasStoreTables db.schema → (more : List Row) × AreVersions db (given ++ more)

-- the rows are all that the query shows
abbrev pub AreAll : Database → VersionQuery → List Row → Type 0
AreAll db (OfTable table selection) given =
    (records : Records) → Represents db records → AreShown records table selection given
AreAll db OfAllTables given = HasStoreTables db.schema → AreVersions db given

-- a connection after the query, wherever it ended: no transaction is open, and what was there is
-- there
pub record IsAfterQuery {S : Type 0} (g : Ghosts S) (first now : Held S) : Type 0 where
  pub clean : HasCleanDisk (state g now) → HasCleanDisk (state g first)
  pub keeps : HasCleanDisk (state g now) → Keeps (state g first) (state g now)
  pub mode : now.in_transaction ≡ false
  pub faults : KeepsFaults (state g first) (state g now)

-- a query that did not begin
pub record HasNotBegun {S X : Type 0} (g : Ghosts S) (first : Held S) (result : Result X Error)
    (now : Held S) : Type 0 where
  pub left : IsAfterQuery g first now
  pub why : FailsWithReason g first now result

-- the query is not at its end, and has given these rows since it began outside a transaction
pub record HasGivenRows {S : Type 0} (g : Ghosts S) (query : VersionQuery) (first now : Held S)
    (given : List Row) : Type 0 where
  pub rows : HasCleanDisk (state g now) → AreFirst (state g first).now query given
  pub left : IsAfterQuery g first now
  pub unchanged : HasCleanDisk (state g now) → IsUnchanged (state g first) (state g now)
  pub goes_on : HasCleanDisk (state g now)
      → HasGiven g (query_text query) (query_given query) now given
  pub settled : IsTrue (state g first).is_open
      → (state g first).now ≡ (state g first).committed

-- the cursor has ended, and has given these rows
pub record HasGivenAll {S : Type 0} (g : Ghosts S) (query : VersionQuery) (first now : Held S)
    (given : List Row) : Type 0 where
  pub rows : HasCleanDisk (state g now) → AreAll (state g first).now query given
  pub left : IsAfterQuery g first now

-- the cursor gives one row more, or ends
abbrev pub GivesNext : {S : Type 0} → Ghosts S → VersionQuery → Held S → Held S → List Row
    → Option Row → Type 0
GivesNext g query first now given (Some row) =
    HasGivenRows g query first now (given ++ row ∷ [])
GivesNext g query first now given None = HasGivenAll g query first now given
