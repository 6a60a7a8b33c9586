-- The files of a store, as it is opened and as it is closed.
use Rattle.std.specs.Prelude.{◌≡◌, ◌⊎◌, ℕ, List, Result, Ok, Err}
use Rattle.std.specs.Mem.{manually_drop_value}
use Rattle.sqlite_disk.specs.declared.Disk.{Ghosts}
use Rattle.sqlite_disk.specs.declared.Files.{Files}
use Rattle.sqlite_wal.specs.Reads.{AreClean}
use Rattle.sqlite_wal.specs.Recovery.{Image}
use Rattle.sqlite_store.specs.declared.store.FileStore.{FileStore}
use Rattle.sqlite.specs.Closing.{IsCopied}
use Rattle.sqlite_store.specs.FileStore.{view}
use Rattle.sqlite_trees.specs.View.{IsClean}
use Rattle.sqlite.specs.Files.{FailsToClose, FailsToOpenFiles, IsCleanLeft, IsClosed, IsOpened}
use Rattle.sqlite.specs.Files.{LeavesFiles, file_state, image_of}
use Rattle.sqlite.specs.Held.{Held}
use Rattle.sqlite.specs.Start.{FindsIn}
use Rattle.sqlite.specs.State.{HasCleanDisk}
use Rattle.sqlite.specs.declared.error.Error.{Error}
use Rattle.sqlite.specs.declared.error.Error.TheVariants.{SqliteFailure}
use Rattle.sqlite.specs.declared.error.ErrorCode.TheVariants.{CannotOpen, DatabaseBusy}
use Rattle.sqlite.specs.declared.error.ErrorCode.TheVariants.{DatabaseCorrupt, NotADatabase}
use Rattle.sqlite.specs.declared.error.ErrorCode.TheVariants.{OutOfMemory}
use Rattle.period_core.specs.declared.refusal.Refusal.TheVariants.{BadStore, Store}
use Rattle.command_line.specs.declared.fault.RunFault.{RunFault}
use Rattle.command_line.specs.declared.fault.RunFault.TheVariants.{Locked, Memory, NoStore, Script}
use Rattle.bitemporal_file.specs.declared.stores.StoreEnd.{StoreEnd}
use Rattle.bitemporal_file.specs.declared.stores.StoreEnd.TheVariants.{Unopened, Refused, GivenUp}
use Rattle.bitemporal_file.specs.declared.stores.StoreEnd.TheVariants.{Closed, Unclosed}

-- the fault that a failure of the database library is reported as
abbrev pub fault_for : Error → RunFault
fault_for (SqliteFailure DatabaseBusy) = Locked
fault_for (SqliteFailure CannotOpen) = NoStore
fault_for (SqliteFailure OutOfMemory) = Memory
fault_for (SqliteFailure NotADatabase) = Script BadStore
fault_for (SqliteFailure DatabaseCorrupt) = Script BadStore
fault_for _ = Script Store

-- while the disk returns what was written, the connection is to the database that the files held,
-- or to a new one if they held none
abbrev pub Finds : {D : Type 0} {g : Ghosts D} → Image → Held (FileStore D g) → Type 0
Finds image connection =
    HasCleanDisk (file_state connection)
    → IsOpened connection × FindsIn image (file_state connection)

-- why there is no connection to the database of the files with this content
abbrev pub FailsToOpen : {D : Type 0} {g : Ghosts D} → Image → StoreEnd D g → RunFault → Type 0
-- the system does not give the files, another program has them, or memory is out
FailsToOpen image Unopened fault = (fault ≡ NoStore) ⊎ ((fault ≡ Locked) ⊎ (fault ≡ Memory))
-- while the disk returned what was written, they hold no database, or memory is out, or the disk
-- failed; and they are left as they were
FailsToOpen {D} {g} image (Refused left) fault =
    (error : Error) × (fault ≡ fault_for error)
    × (files : Files D) × (image_of g files ≡ image)
    × (IsCleanLeft (manually_drop_value left)
    → FailsToOpenFiles files (manually_drop_value left) error
    × LeavesFiles files (manually_drop_value left))
FailsToOpen image _ fault = ⊥

-- the connection was closed: while the disk returns what was written, what it has committed is in
-- the database file alone, as it reads now and after a crash
abbrev pub IsInFiles : {D : Type 0} {g : Ghosts D} → StoreEnd D g → Held (FileStore D g) → Type 0
IsInFiles {D} {g} (Closed files) connection =
    AreClean g files.log files.db → IsCopied connection files
IsInFiles _ connection = ⊥

-- the connection was given up or closed, or it was not closed since the disk failed or memory is
-- out: then a crash has no new outcome
abbrev pub IsLeftAs : {D : Type 0} {g : Ghosts D} → StoreEnd D g → Held (FileStore D g) → Type 0
IsLeftAs (GivenUp left) connection = manually_drop_value left ≡ connection
IsLeftAs {D} {g} (Closed files) connection = IsInFiles {D = D} {g = g} (Closed files) connection
IsLeftAs (Unclosed left) connection = IsClosed connection left
IsLeftAs _ connection = ⊥

-- the fault of a run for an error of the database library while a connection is closed
abbrev pub fault_for_closing : Error → RunFault
fault_for_closing (SqliteFailure OutOfMemory) = Memory
fault_for_closing _ = Script Store

-- why the connection was not closed: while the disk returned what was written, memory is out, or
-- the disk failed, then or before
abbrev pub IsUnclosedFor : {D : Type 0} {g : Ghosts D} → StoreEnd D g → Held (FileStore D g)
    → RunFault → Type 0
IsUnclosedFor (Unclosed left) connection fault =
    (error : Error) × (fault ≡ fault_for_closing error)
    × (IsClean (view left) → FailsToClose connection left error)
IsUnclosedFor _ connection fault = ⊥

-- why a store is not opened, which connection is to what its files held, and how it is left
pub record Filing (S : Type 0) : Type 1 where
  pub Fails : RunFault → Type 0
  pub Opens : Held S → Type 0
  pub Leaves : Held S → Type 0
  -- all that it committed is in its files
  pub Keeps : Held S → Type 0
  -- the files were not closed, for this cause
  pub Unclosed : Held S → RunFault → Type 0

-- the fault is the one that ended the work over the connection, or else the fault of closing it
abbrev pub IsItsFault : {T : Type 0} → (RunFault → Type 0) → Result T RunFault → RunFault → Type 0
IsItsFault IsOfClosing (Err cause) fault = cause ≡ fault
IsItsFault IsOfClosing (Ok value) fault = IsOfClosing fault

-- if a store of the name that is asked for does not open, it was sought by that name, or memory is
-- out
abbrev pub IsSought : (asked name : List ℕ) → RunFault → Type 0
IsSought asked name fault = (fault ≡ Memory) ⊎ (name ≡ asked)

-- the filing of the files that are asked for by a name, that held this, and that were opened by a
-- name and became so
abbrev pub filing : {D : Type 0} {g : Ghosts D} → List ℕ → Image → List ℕ → StoreEnd D g
    → Filing (FileStore D g)
filing asked image name end = record {
  Fails = λ fault. FailsToOpen image end fault × IsSought asked name fault;
  Opens = λ connection. Finds image connection × (name ≡ asked);
  Leaves = IsLeftAs end;
  Keeps = IsInFiles end;
  Unclosed = IsUnclosedFor end;
}
