-- The words that call the program, what they ask for, and how it exits.
use Rattle.std.specs.Prelude.{◌≡◌, ◌==◌, [], ◌∷◌, ℕ, Bool, List, Option, Result, Ok, Err, codes}
use Rattle.std.specs.Prelude.{false, nat_eq}
use Rattle.std.specs.List.{after_last, starts_with}
use Rattle.clap.specs.Words.{Text, fault_of, matches_of}
use Rattle.command_line.specs.CommandFaults.{IsReportedFor}
use Rattle.command_line.specs.FileCommand.{AskFor, Asks, HasConflict, IsFileCommand, IsFileFault}
use Rattle.command_line.specs.FileCommand.{arguments_of, bitemporal_file}
use Rattle.command_line.specs.Lines.{IsReported, MayBeReportedAs, fault_line}
use Rattle.command_line.specs.declared.command.CommandFault.{CommandFault}
use Rattle.command_line.specs.declared.command.CommandFault.TheVariants.{Memory}
use Rattle.command_line.specs.declared.fault.ProgramName.TheVariants.{BitemporalFile}
use Rattle.command_line.specs.declared.fault.RunFault.{RunFault}
use Rattle.command_line.specs.declared.file_command.Request.{Request}
use Rattle.bitemporal_file.specs.Notes.{AreNoted}
use Rattle.bitemporal_file.specs.declared.notes.Tally.{Tally}

-- the last component of a path: what is after its last slash, or all if it has none
abbrev pub last_component : Text → Text
last_component path = after_last (λ byte. byte == 47) path

-- the first word, which is the path of a program, names this one: its last component begins so
abbrev pub names_program : List Text → Bool
names_program [] = false
names_program (word ∷ words) = starts_with nat_eq (last_component word) (codes "bitemporal_file")

-- the words of a command line ask for this: no fault is found in them, and if they are in the
-- usual form they say so
pub record IsAskedBy (words : List Text) (asked : Request) : Type 0 where
  pub sound : fault_of bitemporal_file words ≡ []
  pub asks : Asks (matches_of bitemporal_file words) asked
  pub alone : ¬ HasConflict asked
  pub usual : IsFileCommand (arguments_of words) → AskFor (arguments_of words) asked

-- words that ask for nothing that runs, for this cause: a fault of theirs, or out of memory; of
-- words in the usual form only that
pub record AskNothingFor (words : List Text) (fault : CommandFault) : Type 0 where
  pub told : IsReportedFor (IsFileFault words) fault
  pub usual : IsFileCommand (arguments_of words) → fault ≡ Memory

-- the exit of the program, and of standard error: nothing; or with status 2 the line of a
-- fault, whole unless a write failed
abbrev pub ExitsAs : Result ℕ RunFault → ℕ → Bool → Option (List ℕ) → Option (List ℕ) → Type 0
ExitsAs (Ok status) exit err_failed old new = (exit ≡ status) × (new ≡ old)
ExitsAs (Err fault) exit err_failed old new =
    (exit ≡ 2) × (told : RunFault) × MayBeReportedAs fault told
    × IsReported err_failed old new (fault_line BitemporalFile told)

-- the exit after a run: standard error has its notes, by the versions that its statements forgot,
-- and then the line of a fault
abbrev pub ExitsNoting : Tally → Result ℕ RunFault → ℕ → Bool → Option (List ℕ)
    → Option (List ℕ) → Type 0
ExitsNoting tally ended exit err_failed old new =
    (noted : Option (List ℕ)) × AreNoted tally err_failed old noted
    × ExitsAs ended exit err_failed noted new
