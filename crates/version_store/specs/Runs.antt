-- Rows that a plan ends together.
use Rattle.std.specs.Prelude.{◌≡◌, ◌≢◌, ℕ, ℤ, Bool, if◌then◌else◌, IfOk, IsTrue}
use Rattle.std.specs.Prelude.{List, OnOk, Result, map, take}
use Rattle.std.specs.List.{All, AllByRecursion}
use Rattle.period_core.specs.Encoding.{IsColumnValue, encoded}
use Rattle.period_core.specs.declared.version.VersionRow.{VersionRow}
use Rattle.sqlite.specs.Store.{Ghosts}
use Rattle.sqlite.specs.State.{HasCleanDisk}
use Rattle.sqlite.specs.Effect.{IsDatabase}
use Rattle.sqlite.specs.Held.{Held, state}
use Rattle.version_tables.specs.Represents.{Version, key_of}
use Rattle.version_tables.specs.Runs.{recorded}
use Rattle.version_tables.specs.declared.version_key.RecordedKey.{RecordedKey}
use Rattle.version_tables.specs.declared.version_key.VersionKey.{VersionKey}
use Rattle.version_store.specs.Changed.{ended_at}
use Rattle.version_store.specs.Contents.{Contents}
use Rattle.version_store.specs.PendingRemovals.{HasExcept}

-- the key of a row of the table, as it is written
abbrev pub row_key : ℕ → VersionRow → Version
row_key table row = key_of table (encoded row.values) row.period.start row.from

-- the keys are those of the rows, whose values columns hold, and none of these began at the moment
pub record AreKeysOf (moment : ℤ) (rows : List VersionRow) (keys : List RecordedKey) : Type 0 where
  pub keyed : (table : ℕ) → map (recorded table) keys ≡ map (row_key table) rows
  pub held : AllByRecursion (λ row. All IsColumnValue row.values) rows
  pub earlier : AllByRecursion (λ row. row.from ≢ moment) rows

-- on Ok the transaction goes on; a database that obeyed its schema still does, and the rows are
-- ended if the answer is yes
abbrev pub EndsRows : {S E : Type 0} → Ghosts S → Held S → Held S → Result Bool E
    → ℕ → ℤ → List VersionKey → List VersionRow → Type 0
EndsRows g old new result table moment pending rows =
    HasCleanDisk (state g new) → IsTrue old.in_transaction
    → IfOk result (λ done. IsTrue new.in_transaction × (IsDatabase (state g old).now
    → (c : Contents) → HasExcept (state g old).now table moment pending c
    → IsDatabase (state g new).now × HasExcept (state g new).now table moment pending
    (if done then ended_at table moment rows c else c)))

-- so many of the first rows are ended as is answered
abbrev pub EndsFirst : {S E : Type 0} → Ghosts S → Held S → Held S → Result ℕ E
    → ℕ → ℤ → List VersionKey → List VersionRow → Type 0
EndsFirst g old new result table moment pending rows =
    HasCleanDisk (state g new) → IsTrue old.in_transaction
    → IfOk result (λ count. IsTrue new.in_transaction × (IsDatabase (state g old).now
    → (c : Contents) → HasExcept (state g old).now table moment pending c
    → HasExcept (state g new).now table moment pending
    (ended_at table moment (take count rows) c)))

-- on Ok the transaction goes on, and the contents are changed if the database obeyed its schema
abbrev pub CarriesSound : {S X E : Type 0} → Ghosts S → Held S → Held S → Result X E
    → ℕ → ℤ → List VersionKey → List VersionKey → (Contents → Contents) → Type 0
CarriesSound g old new result table moment before after change =
    HasCleanDisk (state g new) → IsTrue old.in_transaction
    → OnOk result (IsTrue new.in_transaction × (IsDatabase (state g old).now
    → (c : Contents) → HasExcept (state g old).now table moment before c
    → HasExcept (state g new).now table moment after (change c)))
