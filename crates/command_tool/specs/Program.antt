-- A run of the program: its exit status, its report, and its line on standard error.
use Rattle.std.specs.Prelude.{◌≡◌, ◌≢◌, ◌≤◌, ◌⊎◌, ◌+◌, ℕ, Bool, List, Option, None, Some, Result}
use Rattle.std.specs.Prelude.{IfSome, true, is_err}
use Rattle.std.specs.Prelude.{if◌then◌else◌, ⊤}
use Rattle.std.specs.List.{list_any}
use Rattle.std.specs.Io.KnownBytes.{Appends, Keeps}
use Rattle.period_core.specs.declared.refusal.Refusal.{Refusal}
use Rattle.statement_reports.specs.declared.entry.Entry.{Entry}
use Rattle.script_engine.specs.script.AuditedRuns.{IsAuditedRunOf}
use Rattle.script_engine.specs.script.Check.{IsCheckOf}
use Rattle.statement_reports.specs.AuditedReport.{audited_report}
use Rattle.statement_reports.specs.CheckReport.{check_text}
use Rattle.statement_reports.specs.Report.{report}
use Rattle.script_engine.specs.script.Script.{IsRunOf, MayRefuseNewRun, MayRefuseScript}
use Rattle.script_engine.specs.script.Script.{ScriptApplies, most_bytes}
use Rattle.command_line.specs.Audits.{fails_audit}
use Rattle.command_line.specs.Lines.{IsReported, fault_line}
use Rattle.command_line.specs.Reading.{read_of}
use Rattle.command_line.specs.declared.command.Mode.{Mode}
use Rattle.command_line.specs.declared.command.Mode.TheVariants.{Run, RunAudited, Check}
use Rattle.command_line.specs.declared.fault.RunFault.{RunFault}
use Rattle.command_line.specs.declared.fault.RunFault.TheVariants.{Script, Memory, Read, Write}
use Rattle.command_line.specs.declared.fault.ProgramName.TheVariants.{Bitemporal}

-- the most bytes that are read: one more than a script may have
abbrev pub read_limit : ℕ
read_limit = most_bytes + 1

-- 1 if a statement was refused, else 0
abbrev pub status_of : {T : Type 0} → List (Result T Refusal) → ℕ
status_of results = if list_any is_err results then 1 else 0

-- 3 if an audit did not agree or was refused; else 1 if a statement was refused, else 0
abbrev pub audited_status : List Entry → ℕ
audited_status entries =
    if list_any (λ (entry : Entry). fails_audit entry.audit) entries then 3
    else (if list_any (λ (entry : Entry). is_err entry.result) entries then 1 else 0)

-- the status of a report: 2 says that there was a fault
abbrev pub IsOfReport : ℕ → Type 0
IsOfReport status = (status ≤ 3) × (status ≢ 2)

-- the results are of this kind for the script that the reader has, if its bytes are known
abbrev pub AreOfReader :
    {R : Type 0} → (List ℕ → List R → Type 0) → Option (List ℕ) → List R → Type 0
AreOfReader IsOf input results = IfSome input (λ all. IsOf (read_of most_bytes all) results)

-- results of this kind have this status, and their text was written, and nothing else
abbrev pub ReportsText :
    {R : Type 0} → (List ℕ → List R → Type 0) → (List R → List ℕ) → (List R → ℕ)
    → Option (List ℕ) → Option (List ℕ) → Option (List ℕ) → ℕ → Type 0
ReportsText {R} IsOf text_of status_for input old new status =
    (results : List R) × AreOfReader IsOf input results
    × Appends old new (text_of results) × (status ≡ status_for results)

-- a run of the script is reported, a run with its audits, or the script's check
abbrev pub Reports : Mode → Option (List ℕ) → Option (List ℕ) → Option (List ℕ) → ℕ → Type 0
Reports Run = ReportsText IsRunOf report status_of
Reports RunAudited = ReportsText IsAuditedRunOf audited_report audited_status
Reports Check = ReportsText IsCheckOf check_text status_of

-- a script has these refusals as a whole: the fault of its run is one of them, or out of memory
abbrev pub MayFailOver : (List ℕ → Refusal → Type 0) → List ℕ → RunFault → Type 0
MayFailOver MayRefuse script fault =
    (fault ≡ Memory) ⊎ ((refusal : Refusal) × (fault ≡ Script refusal) × MayRefuse script refusal)

-- a fault of a script that gave no results and has these refusals as a whole; its reader is at
-- fault only if a read failed
abbrev pub MayFailSilently :
    (List ℕ → Refusal → Type 0) → Option (List ℕ) → Bool → RunFault → Type 0
MayFailSilently MayRefuse input read_failed (Script refusal) =
    IfSome input (λ all. MayRefuse (read_of most_bytes all) refusal)
MayFailSilently MayRefuse input read_failed Memory = ⊤
MayFailSilently MayRefuse input read_failed Read = read_failed ≡ true
MayFailSilently MayRefuse input read_failed _ = ⊥

-- the refusals of a whole script: only a run opens a store, and that is a new one
abbrev pub MayRefuseIn : Mode → List ℕ → Refusal → Type 0
MayRefuseIn Run = MayRefuseNewRun
MayRefuseIn RunAudited = MayRefuseNewRun
MayRefuseIn Check = MayRefuseScript

-- a fault of a script that gave no results in this mode
abbrev pub MayEndSilently : Mode → Option (List ℕ) → Bool → RunFault → Type 0
MayEndSilently mode = MayFailSilently (MayRefuseIn mode)

-- the script that the reader has gives results of this kind
abbrev pub GivesResults : {R : Type 0} → (List ℕ → List R → Type 0) → Option (List ℕ) → Type 0
GivesResults {R} IsOf input = (results : List R) × AreOfReader IsOf input results

-- the script gives results of a run, with audits or without, or of a check
abbrev pub HasResults : Mode → Option (List ℕ) → Type 0
HasResults Run = GivesResults IsRunOf
HasResults RunAudited = GivesResults IsAuditedRunOf
HasResults Check = GivesResults IsCheckOf

-- a fault that ends a report: it may end it silently, and the output got nothing; or the script has
-- results, and memory or the writer failed as their report was written
abbrev pub MayEndBy :
    (RunFault → Type 0) → Type 0 → Option (List ℕ) → Option (List ℕ) → RunFault → Type 0
MayEndBy MaySilently HaveResults old new fault =
    (MaySilently fault × Keeps old new) ⊎ (HaveResults × ((fault ≡ Memory) ⊎ (fault ≡ Write)))

-- a fault that the program may end in
abbrev pub MayEndIn :
    Mode → Option (List ℕ) → Bool → Option (List ℕ) → Option (List ℕ) → RunFault → Type 0
MayEndIn mode input read_failed =
    MayEndBy (MayEndSilently mode input read_failed) (HasResults mode input)

-- the script that the reader has, if its bytes are known, is refused as a whole
abbrev pub IsRefusedWhole : Option (List ℕ) → Type 0
IsRefusedWhole None = ⊥
IsRefusedWhole (Some all) = (refusal : Refusal) × ScriptApplies (read_of most_bytes all) refusal

-- a run of the program over a script: its mode, what is known of the script, of the output and of
-- standard error before and after, whether a read or a write to standard error failed, the status
pub record ProgramRun : Type 0 where
  pub mode : Mode
  pub script : Option (List ℕ)
  pub read_failed : Bool
  pub out_before : Option (List ℕ)
  pub out_after : Option (List ℕ)
  pub err_before : Option (List ℕ)
  pub err_after : Option (List ℕ)
  pub err_failed : Bool
  pub status : ℕ

-- the output got the report, and standard error nothing: the status is not 2
abbrev pub EndsInReport : ProgramRun → Type 0
EndsInReport r = r.status ≢ 2
    → Reports r.mode r.script r.out_before r.out_after r.status × Keeps r.err_before r.err_after

-- the run ends in a fault, with status 2, and standard error got its line
abbrev pub EndsInFault : ProgramRun → Type 0
EndsInFault r = r.status ≡ 2 → (fault : RunFault)
    × MayEndIn r.mode r.script r.read_failed r.out_before r.out_after fault
    × IsReported r.err_failed r.err_before r.err_after (fault_line Bitemporal fault)

-- a script that is refused as a whole ends with status 2, and the output got nothing
abbrev pub EndsRefused : ProgramRun → Type 0
EndsRefused r = IsRefusedWhole r.script → (r.status ≡ 2) × Keeps r.out_before r.out_after

-- the end of each run
abbrev pub EndsWell : ProgramRun → Type 0
EndsWell r = (r.status ≤ 3) × EndsInReport r × EndsInFault r × EndsRefused r

-- the bytes of the script: from the file that is named, or else from the reader
abbrev pub script_of :
    (List ℕ → Option (List ℕ)) → Option (List ℕ) → Option (List ℕ) → Option (List ℕ)
script_of content_of input None = input
script_of content_of input (Some name) = content_of name

-- whether its reader failed: the file that is named did not open or a read of it failed, or else a
-- read of the input
abbrev pub failed_of : Bool → Bool → Option (List ℕ) → Bool
failed_of input_failed files_failed None = input_failed
failed_of input_failed files_failed (Some name) = files_failed
