use Rattle.std.proofs.Common.{◌∙◌, ℕ, Bool, List, ap₂, cond}
use Rattle.sqlite_disk.specs.Events.{Event, replay}
use Rattle.sqlite_wal.specs.Files.{image_at}
use Rattle.bitemporal_file.proofs.OpenFacts.{not_given, not_opened}
use Rattle.bitemporal_file.proofs.stores.FilesOf+S+FileFrom+S.open_now.Goals as goal
use Rattle.bitemporal_file.proofs.stores.FilesOf+S+FileFrom+S.open_now.Goals.{in-Some, in_default}

abbrev seen : List ℕ → List ℕ → Bool → List Event → List ℕ
seen log db is_log history = (replay (cond is_log log db) history).seen

pub returns-in-Ok-clause-opened : goal.returns-in-Ok-clause-opened
returns-in-Ok-clause-opened g c clean = (c.in-Ok.ensures.opened clean, c.in-Ok.ensures.found clean)

pub returns-after-ne-clause-refused : goal.returns-after-ne-clause-refused
returns-after-ne-clause-refused g c =
    elim c.match-left.branch [
      | in-Some w ↦
          let cause = rw w.in-Some.is at c.in-Err.ensures.cause in
          let (files, log, db, why) = cause in
          not_opened (image_at g.S.Start) c.match-left.self.end c.fault_of-fault.result c.in-Err.error w.in-Some.left w.new.result (λ k. (w.self-is k).end) w.new.ensures c.fault_of-fault.ensures files (ap₂ (seen g.S.Start.log g.S.Start.db) log.0 log.1) (ap₂ (seen g.S.Start.log g.S.Start.db) db.0 db.1) why
      | in_default w ↦ not_given (image_at g.S.Start) c.match-left.self.end c.fault_of-fault.result c.in-Err.error ((λ k. (w.self-is k).end) ∙ c.requires) c.fault_of-fault.ensures (c.in-Err.ensures.unopened w.in_default.is)
    ]
