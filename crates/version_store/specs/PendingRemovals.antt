-- A database in the midst of a plan: it still has versions that the plan removes.
use Rattle.std.specs.Prelude.{◌+◌, ℕ, ℤ, Bool, not, List, map, filter}
use Rattle.std.specs.Prelude.{IfErr, IsPermutation, IsTrue, OnOk, Result}
use Rattle.std.specs.List.{AllByRecursion, list_any}
use Rattle.sqlite.specs.Store.{Ghosts}
use Rattle.sqlite.specs.State.{HasCleanDisk}
use Rattle.sqlite.specs.Held.{Held, state}
use Rattle.sqlite.specs.Effect.{Database}
use Rattle.version_tables.specs.Healthy.{IsHealthy}
use Rattle.version_tables.specs.Represents.{Represents, Version, key_of, same_key}
use Rattle.version_tables.specs.declared.version_key.VersionKey.{VersionKey}
use Rattle.version_store.specs.Contents.{Contents, HaveColumnValues}
use Rattle.version_store.specs.Faults.{IsCaused}
use Rattle.version_store.specs.Written.{IsReadable, written, written_version}
use Rattle.version_store.specs.declared.fault.StoreFault.{StoreFault}

-- the key of a version of the table that began at the moment
abbrev pub key_at : ℕ → ℤ → VersionKey → Version
key_at table moment key = key_of table key.values.items key.start moment

-- whether a version of the table began at the moment and has one of the keys
abbrev pub is_pending : ℕ → ℤ → List VersionKey → Version → Bool
is_pending table moment keys v = list_any (λ key. same_key (key_at table moment key) v) keys

-- the database would have these contents without the versions that are still to be removed
pub record HasExcept (db : Database) (table : ℕ) (moment : ℤ) (pending : List VersionKey)
    (c : Contents) : Type 0 where
  pub versions : List Version
  pub rows : Represents db (record (written c) { versions = versions })
  pub others : IsPermutation (filter (λ v. not (is_pending table moment pending v)) versions)
      (map written_version c.versions)
  pub definitions : AllByRecursion IsReadable c.tables
  pub values : HaveColumnValues c.versions

-- on Ok the transaction stays open, the contents are changed, and so are the keys of the versions
-- that are still to be removed
abbrev pub CarriesExcept : {S X E : Type 0} → Ghosts S → Held S → Held S → Result X E
    → ℕ → ℤ → List VersionKey → List VersionKey → (Contents → Contents) → Type 0
CarriesExcept g old new result table moment before after change =
    HasCleanDisk (state g new) → IsTrue old.in_transaction
    → OnOk result (IsTrue new.in_transaction
    × ((c : Contents) → HasExcept (state g old).now table moment before c
    → HasExcept (state g new).now table moment after (change c)))

-- over a healthy database, with room for so many versions more, and contents that P holds of, a
-- fault has a cause
abbrev pub IsCausedExcept : {S X : Type 0} → Ghosts S → Held S → Held S → Result X StoreFault
    → ℕ → ℤ → List VersionKey → ℕ → (Contents → Type 0) → Type 0
IsCausedExcept g old new result table moment pending count P =
    HasCleanDisk (state g new) → IsTrue old.in_transaction → IsHealthy count (state g old).now
    → (c : Contents) → HasExcept (state g old).now table moment pending c → P c
    → IfErr result (IsCaused (state g old) (state g new))

-- on Ok the database is left healthy, and so many versions use up room
abbrev pub StaysHealthyExcept : {S X E : Type 0} → Ghosts S → Held S → Held S → Result X E
    → ℕ → ℤ → List VersionKey → ℕ → Type 0
StaysHealthyExcept g old new result table moment pending used =
    HasCleanDisk (state g new) → IsTrue old.in_transaction → (left : ℕ)
    → IsHealthy (used + left) (state g old).now → (c : Contents)
    → HasExcept (state g old).now table moment pending c
    → OnOk result (IsHealthy left (state g new).now)
