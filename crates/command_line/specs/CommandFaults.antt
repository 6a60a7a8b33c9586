-- Why words of a command line ask for nothing that runs, and how a program then ends.
use Rattle.std.specs.Prelude.{◌≡◌, ◌⊎◌, ℕ, Bool, List, Option, ⊤}
use Rattle.std.specs.String.{string_bytes}
use Rattle.std.specs.Io.KnownBytes.{Appends}
use Rattle.clap.specs.declared.error.kind.ErrorKind.{ErrorKind}
use Rattle.clap.specs.declared.error.kind.ErrorKind.TheVariants.{DisplayHelp, DisplayVersion}
use Rattle.command_line.specs.Lines.{IsReported, fault_line}
use Rattle.command_line.specs.declared.command.CommandFault.{CommandFault}
use Rattle.command_line.specs.declared.command.CommandFault.TheVariants.{Shown, Mistake, Memory}
use Rattle.command_line.specs.declared.fault.ProgramName.{ProgramName}
use Rattle.command_line.specs.declared.fault.RunFault.TheVariants as run

-- the words ask for help or the version
abbrev pub IsRequest : ErrorKind → Type 0
IsRequest kind = (kind ≡ DisplayHelp) ⊎ (kind ≡ DisplayVersion)

-- a fault of words in which these kinds are found: a request for help or the version is shown, and
-- else there is a mistake; out of memory may come in the place of either
abbrev pub IsReportedFor : (ErrorKind → Type 0) → CommandFault → Type 0
IsReportedFor IsFound (Shown text) = (kind : ErrorKind) × IsFound kind × IsRequest kind
IsReportedFor IsFound (Mistake text) = (kind : ErrorKind) × IsFound kind × ¬ IsRequest kind
IsReportedFor IsFound Memory = ⊤

-- the end of a program in a fault of its words: its exit status, and the known output and
-- standard error, before and after
abbrev pub IsShown : ProgramName → CommandFault → ℕ → Option (List ℕ) → Option (List ℕ) → Bool
    → Option (List ℕ) → Option (List ℕ) → Type 0
-- the output has the text, or it was not written whole
IsShown program (Shown text) status out_old out_new err_failed err_old err_new =
    ((status ≡ 0) × Appends out_old out_new (string_bytes text) × (err_new ≡ err_old))
    ⊎ ((status ≡ 2) × IsReported err_failed err_old err_new (fault_line program run.Write))
-- standard error has the text, or the line of out of memory
IsShown program (Mistake text) status out_old out_new err_failed err_old err_new =
    (status ≡ 2) × (out_new ≡ out_old) × IsReported err_failed err_old err_new (string_bytes text)
IsShown program Memory status out_old out_new err_failed err_old err_new =
    (status ≡ 2) × (out_new ≡ out_old)
    × IsReported err_failed err_old err_new (fault_line program run.Memory)
