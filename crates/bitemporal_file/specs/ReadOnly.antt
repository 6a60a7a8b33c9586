-- Stores that are only read: what their files hold, and what is run over that.
use Rattle.std.specs.Prelude.{◌≡◌, ◌⊎◌, ◌++◌, ℕ, Bool, List, [], Option, Result, Err, IfSome, codes}
use Rattle.std.specs.Prelude.{MatchOption, false, map, true}
use Rattle.std.specs.String.{string_bytes}
use Rattle.sqlite_disk.specs.declared.Disk.{Ghosts as DiskGhosts}
use Rattle.sqlite_disk.specs.declared.Files.{Files}
use Rattle.sqlite_wal.specs.Recovery.{Image}
use Rattle.sqlite_store.specs.declared.store.FileStore.{FileStore}
use Rattle.sqlite.specs.Files.{FailsToOpenFiles, IsCleanLeft, image_of}
use Rattle.sqlite.specs.Held.{Held}
use Rattle.sqlite.specs.Store.{Ghosts}
use Rattle.sqlite.specs.declared.error.Error.{Error}
use Rattle.sqlite.specs.declared.file.Leftover.{Leftover}
use Rattle.period_core.specs.declared.refusal.Refusal.{Refusal}
use Rattle.period_core.specs.declared.refusal.Refusal.TheVariants.{Store}
use Rattle.statement_reports.specs.AuditedReport.{entry_text}
use Rattle.statement_reports.specs.Report.{text_of}
use Rattle.script_engine.specs.declared.script.read_only.ReadOnly.{ReadOnly}
use Rattle.script_engine.specs.script.AuditedRuns.{AuditedPieceStep}
use Rattle.script_engine.specs.script.ReadOnly.{ReadOnlyPieceStep, ReadOnlyPieceStepOver}
use Rattle.script_engine.specs.script.Script.{KeptStepOver, PieceStep, PieceStepOver}
use Rattle.command_line.specs.declared.fault.RunFault.{RunFault}
use Rattle.command_line.specs.declared.fault.RunFault.TheVariants.{Locked, Memory, NoStore, Script}
use Rattle.command_line.specs.declared.file_command.Request.{Request}
use Rattle.bitemporal_file.specs.Inspections.{inspection_in}
use Rattle.bitemporal_file.specs.Reporting.{entry_status, refused_entry, result_status}
use Rattle.bitemporal_file.specs.StoreFiles.{Filing, Finds, fault_for}
use Rattle.bitemporal_file.specs.StoreRuns.{Inspects, RunsKind, Uses}
use Rattle.bitemporal_file.specs.declared.reporter.Reporter.{Reporter}

-- ---- the contents of the files

-- the log of a store is next to its file
abbrev pub log_beside : List ℕ → List ℕ
log_beside place = place ++ codes "-wal"

-- all bytes of a file were read, if they are known
abbrev pub AreAllOf : Option (List ℕ) → List ℕ → Type 0
AreAllOf known bytes = IfSome known (λ all. bytes ≡ all)

-- the files of the store at a place hold this, by what the file of each place holds: its own file,
-- and its log, or nothing if there may be none
pub record AreHeldAt (content : List ℕ → Option (List ℕ)) (MayLack : List ℕ → Type 0)
    (place : List ℕ) (image : Image) : Type 0 where
  pub db : AreAllOf (content place) image.db
  pub log : AreAllOf (content (log_beside place)) image.log
      ⊎ (MayLack (log_beside place) × (image.log ≡ []))

-- the files of the store to whose place a name leads hold this
abbrev pub AreHeldBy : (List ℕ → Type 0) → (List ℕ → Option (List ℕ)) → (List ℕ → Type 0) → Image
    → Type 0
AreHeldBy LeadsTo content MayLack image =
    (place : List ℕ) × LeadsTo place × AreHeldAt content MayLack place image

-- why the files of a store are not read: there is none, or the system does not give it; another
-- program changes it; memory is out; or a read failed
abbrev pub IsReadFault : RunFault → Type 0
IsReadFault fault =
    (fault ≡ NoStore) ⊎ ((fault ≡ Locked) ⊎ ((fault ≡ Memory) ⊎ (fault ≡ Script Store)))

-- ---- runs over these contents

-- why files in memory that hold this do not open: there is no database in them, or memory is out
abbrev pub FailsToOpenHeld : {D : Type 0} → DiskGhosts D → Image → RunFault → Type 0
FailsToOpenHeld {D} g image fault =
    (error : Error) × (fault ≡ fault_for error)
    × (files : Files D) × (image_of g files ≡ image) × (left : Leftover D g)
    × (IsCleanLeft left → FailsToOpenFiles files left error)

-- a store that is only read is opened in memory, over what its files hold; nothing is asked of how
-- that is left
abbrev pub reading : {D : Type 0} (g : DiskGhosts D) → (Image → Type 0) → Filing (FileStore D g)
reading {D} g AreHeld = record {
  Fails = λ fault. IsReadFault fault
      ⊎ ((image : Image) × AreHeld image × FailsToOpenHeld g image fault);
  Opens = λ connection. (image : Image) × AreHeld image × Finds image connection;
  Leaves = λ connection. Unit {0};
  Keeps = λ connection. Unit {0};
  Unclosed = λ connection fault. ⊥;
}

-- the result of a statement that is refused as it is read
abbrev pub read_only_refusal : {K : Type 0} → (Refusal → K) → Refusal → ReadOnly K
read_only_refusal refused refusal = record { kept = refused refusal }

-- a run that changes nothing, with an audit of each answer, or without; where the system makes
-- files
abbrev pub RunsReading : {S W N : Type 0} → Ghosts S → (List ℕ → List ℕ → Type 0)
    → (W → Option (List ℕ)) → (N → Option (List ℕ)) → Bool
    → List (Option (List ℕ)) → (known unread : Option (List ℕ)) → Bool → Reporter W N → Held S
    → Result Bool RunFault → Held S → Reporter W N → Type 0
RunsReading g made contents errors false =
    RunsKind g made (ReadOnlyPieceStep PieceStep Err)
    (ReadOnlyPieceStepOver (PieceStepOver g) Err)
    (read_only_refusal Err) contents errors (λ number only. text_of number only.kept)
    (λ only. result_status only.kept) (λ only. 0)
RunsReading g made contents errors true =
    RunsKind g made (ReadOnlyPieceStep AuditedPieceStep refused_entry)
    (ReadOnlyPieceStepOver (KeptStepOver g (λ entry. entry.result)) refused_entry)
    (read_only_refusal refused_entry) contents errors
    (λ number only. entry_text number only.kept) (λ only. entry_status only.kept) (λ only. 0)

-- the request of a command line is run so over a store, by which bytes the names of scripts have,
-- and by what is known of the input before and after, which is read only if the store is used, and
-- whether a read of it failed
abbrev pub RunsAskedReading : {S I W N : Type 0} → Ghosts S → (List ℕ → List ℕ → Type 0)
    → (W → Option (List ℕ)) → (N → Option (List ℕ)) → Filing S → (List ℕ → Option (List ℕ))
    → (I → Option (List ℕ)) → (I → Bool) → Request → Reporter W N → I → Result ℕ RunFault
    → Reporter W N → I → Type 0
RunsAskedReading g made contents errors files content_of remaining failed asked old unread result
    new input =
    Uses g files (λ reporter. (reporter ≡ old) × (input ≡ unread))
    (RunsReading g made contents errors asked.audits
    (map content_of (map string_bytes asked.files.items)) (remaining unread) (remaining input)
    (failed input) old)
    result new

-- a command line is obeyed over a store that is only read: the store is inspected as it asks, and
-- no input is read; or else what it asks for is run
abbrev pub DoesAskedReading : {S I W N : Type 0} → Ghosts S → (List ℕ → List ℕ → Type 0)
    → (W → Option (List ℕ)) → (N → Option (List ℕ)) → Filing S → (List ℕ → Option (List ℕ))
    → (I → Option (List ℕ)) → (I → Bool) → Request → Reporter W N → I → Result ℕ RunFault
    → Reporter W N → I → Type 0
DoesAskedReading g made contents errors files content_of remaining failed asked old unread result
    new input =
    MatchOption (inspection_in asked)
    (RunsAskedReading g made contents errors files content_of remaining failed asked
    (record old { stops = asked.stops }) unread result new input)
    (λ inspection. Inspects g contents files inspection old result new × (input ≡ unread))
