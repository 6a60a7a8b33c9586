-- Stores that are only read: what is found in the bytes of their files.
use Rattle.std.proofs.Common.{◌≡◌, subst}
use Rattle.sqlite_disk.specs.declared.Disk.{Ghosts}
use Rattle.sqlite_disk.specs.declared.Files.{Files}
use Rattle.sqlite_wal.specs.Recovery.{Image}
use Rattle.sqlite_store.specs.declared.store.FileStore.{FileStore}
use Rattle.sqlite.specs.Files.{Finds as FindsFiles, file_state, image_of}
use Rattle.sqlite.specs.Held.{Held}
use Rattle.sqlite.specs.Start.{FindsIn}

-- findings in files are findings in their contents
module _ {D : Type 0} {g : Ghosts D} where
  pub found_in : (image : Image) (files : Files D) (c : Held (FileStore D g)) → image_of g files ≡ image → FindsFiles files c → FindsIn image (file_state c)
  found_in image files c is found =
      let here : FindsIn (image_of g files) (file_state c) = record { holds = found.holds; reads = found.reads } in
      subst (λ (i : Image). FindsIn i (file_state c)) is here
