use Rattle.std.proofs.Common.{[], inr, refl, subst, sym}
use Rattle.sqlite.specs.Effect.{Database}
use Rattle.sqlite.specs.Files.{HoldsDatabase, file_state}
use Rattle.sqlite_disk.specs.Memory.{memory_bytes}
use Rattle.sqlite.specs.declared.error.Error.{Error}
use Rattle.sqlite.specs.declared.error.Error.TheVariants.{SqliteFailure}
use Rattle.sqlite.specs.declared.error.ErrorCode.TheVariants.{OutOfMemory}
use Rattle.bitemporal_file.specs.Copies.{IsBackupFault}
use Rattle.bitemporal_file.specs.StoreFiles.{fault_for_closing}
use Rattle.bitemporal_file.proofs.backup.copy_of.Goals as goal

-- memory returns what was written
pub returns-in-Ok-close_files-clause-copied : goal.returns-in-Ok-close_files-clause-copied
returns-in-Ok-close_files-clause-copied g c usable history stands =
    let copied = c.in-Ok-close_files.ensures.copied refl in
    let holds = c.in_default.ensures.copied usable (copied.was_clean, copied.was_open) history stands in (
      (file_state c.copy_into.new.copy).now,
      holds.now,
      subst (λ (d : Database). ∥ HoldsDatabase (record { log = []; db = memory_bytes c.in-Ok-close_files.files.db }) d.trees ∥₁) holds.committed copied.seen.alone,
    )

-- why its files are not closed
closes_so : (error : Error) → IsBackupFault (fault_for_closing error)
closes_so (SqliteFailure OutOfMemory) = tt
closes_so _ = inr refl

pub returns-in-Err-close_files-clause-fault : goal.returns-in-Err-close_files-clause-fault
returns-in-Err-close_files-clause-fault g c = subst IsBackupFault (sym c.closing_fault-in-Err-close_files.ensures) (closes_so c.in-Err-close_files.error)
