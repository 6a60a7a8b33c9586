-- Files that give no connection, each case with its fault.
use Rattle.std.proofs.Common.{◌≡◌, ◌⊎◌, inl, inr, refl, subst, sym}
use Rattle.std.specs.Mem.{manually_drop_value}
use Rattle.std.specs.declared.mem.ManuallyDrop.{ManuallyDrop}
use Rattle.sqlite_disk.specs.declared.Disk.{Ghosts}
use Rattle.sqlite_disk.specs.declared.Files.{Files}
use Rattle.sqlite_wal.specs.Recovery.{Image}
use Rattle.sqlite.specs.Files.{FailsToOpenFiles, IsCleanLeft, LeavesFiles}
use Rattle.sqlite.specs.declared.error.Error.{Error}
use Rattle.sqlite.specs.declared.error.Error.TheVariants.{SqliteFailure}
use Rattle.sqlite.specs.declared.error.ErrorCode.TheVariants.{CannotOpen, DatabaseBusy, OutOfMemory}
use Rattle.sqlite.specs.declared.file.Leftover.{Leftover}
use Rattle.command_line.specs.declared.fault.RunFault.{RunFault}
use Rattle.bitemporal_file.specs.declared.stores.StoreEnd.{StoreEnd}
use Rattle.bitemporal_file.specs.declared.stores.StoreEnd.TheVariants.{Refused, Unopened}
use Rattle.bitemporal_file.specs.StoreFiles.{FailsToOpen, fault_for}

module _ {D : Type 0} {g : Ghosts D} where
  pub not_opened : (image : Image) (end : StoreEnd D g) (fault : RunFault) (error : Error) (rest : Leftover D g) (left : ManuallyDrop (Leftover D g)) → end ≡ Refused left → manually_drop_value left ≡ rest → fault ≡ fault_for error →
      (files : Files D) → g.seen files.log ≡ image.log → g.seen files.db ≡ image.db → (IsCleanLeft rest → FailsToOpenFiles files rest error × LeavesFiles files rest) → FailsToOpen image end fault
  not_opened image end fault error rest left is value told files log db why =
      rw is (error, told, files, (λ k. record { log = log k; db = db k }), subst (λ (l : Leftover D g). IsCleanLeft l → FailsToOpenFiles files l error × LeavesFiles files l) (sym value) why)

  pub not_given : (image : Image) (end : StoreEnd D g) (fault : RunFault) (error : Error) → end ≡ Unopened → fault ≡ fault_for error →
      (error ≡ SqliteFailure CannotOpen) ⊎ ((error ≡ SqliteFailure OutOfMemory) ⊎ (error ≡ SqliteFailure DatabaseBusy)) → FailsToOpen image end fault
  not_given image end fault error is told (inl cannot) = rw (is, told, cannot) (inl refl)
  not_given image end fault error is told (inr (inl out)) = rw (is, told, out) (inr (inr refl))
  not_given image end fault error is told (inr (inr busy)) = rw (is, told, busy) (inr (inl refl))
