-- Copies of a store: the bytes of their files, and why none is made.
use Rattle.std.specs.Prelude.{[], List, ℕ, ⊤}
use Rattle.sqlite.specs.Effect.{Database}
use Rattle.sqlite.specs.Files.{HoldsDatabase}
use Rattle.version_store.specs.StoreState.{IsStoreRefusal}
use Rattle.history_model.specs.Histories.{History}
use Rattle.script_engine.specs.engine.Stored.{DatabaseRepresents}
use Rattle.command_line.specs.declared.fault.RunFault.{RunFault}
use Rattle.command_line.specs.declared.fault.RunFault.TheVariants.{CopyFailed, CopyThere, Memory}
use Rattle.command_line.specs.declared.fault.RunFault.TheVariants.{Script}

-- a file with the bytes, and without a log, holds a database that is what the history says
abbrev pub IsFileOf : History → List ℕ → Type 0
IsFileOf history bytes =
    (db : Database) × DatabaseRepresents history db
    × ∥ HoldsDatabase (record { log = []; db = bytes }) db.trees ∥₁

-- no contract can say what a file of the system holds
abbrev pub AnyFile : List ℕ → List ℕ → Type 0
AnyFile name bytes = ⊤

-- why a new file is not made: memory is out, there is one of that name, or it cannot be written
abbrev pub IsCopyFault : RunFault → Type 0
IsCopyFault Memory = ⊤
IsCopyFault CopyThere = ⊤
IsCopyFault CopyFailed = ⊤
IsCopyFault _ = ⊥

-- why a copy of an open store is not made: its file is not, or memory is out or the disk failed
abbrev pub IsBackupFault : RunFault → Type 0
IsBackupFault (Script refusal) = IsStoreRefusal refusal
IsBackupFault fault = IsCopyFault fault
