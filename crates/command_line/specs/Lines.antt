-- The lines that standard error gets.
use Rattle.std.specs.Prelude.{◌≡◌, ◌⊎◌, ◌++◌, [], ℕ, Bool, List, Option, Some, None, codes, take}
use Rattle.std.specs.Prelude.{true, ⊤}
use Rattle.std.specs.Fmt.{decimal}
use Rattle.std.specs.Io.KnownBytes.{Appends}
use Rattle.std.specs.declared.io.ErrorKind.{ErrorKind}
use Rattle.std.specs.declared.io.ErrorKind.TheVariants.{InvalidData}
use Rattle.period_core.specs.Codes.{code_of, name_of}
use Rattle.period_core.specs.declared.refusal.Refusal.{Refusal}
use Rattle.period_core.specs.declared.refusal.Refusal.TheVariants.{BadToken, Memory as OutOfMemory}
use Rattle.statement_reports.specs.declared.fault.ReportFault.{ReportFault}
use Rattle.statement_reports.specs.declared.fault.ReportFault.TheVariants as report
use Rattle.command_line.specs.declared.fault.RunFault.{RunFault}
use Rattle.command_line.specs.declared.fault.RunFault.TheVariants.{Script, Memory, Words, Read}
use Rattle.command_line.specs.declared.fault.RunFault.TheVariants.{Write, NoStore, Locked}
use Rattle.command_line.specs.declared.fault.RunFault.TheVariants.{ClockAhead, Unfinished}
use Rattle.command_line.specs.declared.fault.RunFault.TheVariants.{CopyFailed, CopyThere}
use Rattle.command_line.specs.declared.fault.ProgramName.{ProgramName}
use Rattle.command_line.specs.declared.fault.ProgramName.TheVariants.{Bitemporal, BitemporalFile}

-- the byte of the script that a refusal names
abbrev pub offset_of : Refusal → Option ℕ
offset_of (BadToken offset) = Some offset
offset_of _ = None

-- the byte's offset after a space
abbrev pub detail_of : Option ℕ → List ℕ
detail_of None = []
detail_of (Some offset) = codes " " ++ decimal offset

-- the name of a program
abbrev pub program_text : ProgramName → List ℕ
program_text Bitemporal = codes "bitemporal"
program_text BitemporalFile = codes "bitemporal_file"

-- PROGRAM: CODE NAME, and the detail
abbrev pub line_of : List ℕ → ℕ → List ℕ → List ℕ → List ℕ
line_of program code name detail =
    program ++ codes ": " ++ decimal code ++ codes " " ++ name ++ detail ++ codes "\n"

-- the line of a refusal, for a bad token with its offset
abbrev pub refusal_line : ProgramName → Refusal → List ℕ
refusal_line program refusal =
    line_of (program_text program) (code_of refusal) (name_of refusal)
    (detail_of (offset_of refusal))

-- the fault of a run whose report was not written: out of memory, or that its writer failed
abbrev pub fault_of : ReportFault → RunFault
fault_of report.Memory = Memory
fault_of report.Write = Write

-- the fault of a command line whose words the system did not give, by the kind of its error
abbrev pub words_fault : ErrorKind → RunFault
words_fault InvalidData = Words
words_fault _ = Memory

-- PROGRAM: and a text
abbrev pub message_line : ProgramName → List ℕ → List ℕ
message_line program text = program_text program ++ codes ": " ++ text ++ codes "\n"

-- the line of a fault
abbrev pub fault_line : ProgramName → RunFault → List ℕ
fault_line program (Script refusal) = refusal_line program refusal
fault_line program Memory = refusal_line program OutOfMemory
fault_line program Words = message_line program (codes "a word of the command line is not UTF-8")
fault_line program Read = message_line program (codes "cannot read the script")
fault_line program Write = message_line program (codes "cannot write the report")
fault_line program NoStore = message_line program (codes "cannot open the store")
fault_line program Locked =
    message_line program (codes "another program has the store open, perhaps an idle sqlite3")
fault_line program ClockAhead =
    message_line program
    (codes "the store's clock is ahead of the system's time: tools/alter STORE --clock-now "
    ++ codes "--to NEW moves it back, --clock-ahead runs all the same")
fault_line program Unfinished =
    message_line program (codes "the input ends within a statement, which was not run")
fault_line program CopyThere = message_line program (codes "the file of the copy is there already")
fault_line program CopyFailed = message_line program (codes "cannot write the copy")

-- known bytes grow by the first bytes of the line, all of them or fewer
abbrev pub GetsFrontOf : Option (List ℕ) → Option (List ℕ) → List ℕ → Type 0
GetsFrontOf old new line = (count : ℕ) × Appends old new (take count line)

-- known bytes grow by the line; or, if a write failed, by a front of it
abbrev pub IsReported : Bool → Option (List ℕ) → Option (List ℕ) → List ℕ → Type 0
IsReported has_failed old new line =
    Appends old new line ⊎ ((has_failed ≡ true) × GetsFrontOf old new line)

-- the fault is a refused script's, whose line takes memory
abbrev pub IsOfScript : RunFault → Type 0
IsOfScript (Script refusal) = ⊤
IsOfScript _ = ⊥

-- a fault is reported by its own line, or the line of a refused script as out of memory
abbrev pub MayBeReportedAs : RunFault → RunFault → Type 0
MayBeReportedAs fault told = (told ≡ fault) ⊎ (IsOfScript fault × (told ≡ Memory))

-- the report of a fault without memory
abbrev pub without_memory : RunFault → RunFault
without_memory (Script refusal) = Memory
without_memory fault = fault
