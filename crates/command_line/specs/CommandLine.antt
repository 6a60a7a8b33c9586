-- The command line, and what it chooses.
use Rattle.std.specs.Prelude.{◌≡◌, ◌⊎◌, ◌==◌, [], ◌∷◌, Bool, List, Option, Some, None, codes}
use Rattle.std.specs.Prelude.{false, true}
use Rattle.clap.specs.Words.{App, IsAmong, Row, Rule, Text, fault_of, first_of, new_app, new_rule}
use Rattle.clap.specs.Words.{subcommand_of, with_rule, with_subcommand}
use Rattle.clap.specs.declared.builder.action.ArgAction.TheVariants.{Set, SetTrue}
use Rattle.clap.specs.declared.error.kind.ErrorKind.{ErrorKind}
use Rattle.clap.specs.declared.error.kind.ErrorKind.TheVariants.{MissingSubcommand}
use Rattle.command_line.specs.declared.command.Mode.{Mode}
use Rattle.command_line.specs.declared.command.Mode.TheVariants.{Run, RunAudited, Check}

-- FILE, which may be left out
abbrev pub file_word : Rule
file_word = record (new_rule (codes "FILE")) { action = Some Set }

-- --audit
abbrev pub audit_flag : Rule
audit_flag =
    record (new_rule (codes "audit")) { long = Some (codes "audit"); action = Some SetTrue }

-- a subcommand of this name, with [FILE]
abbrev pub script_command : Text → App
script_command name = with_rule (new_app name) file_word

-- run, with [--audit] too
abbrev pub run_command : App
run_command = with_rule (script_command (codes "run")) audit_flag

-- a command that is refused without a subcommand
abbrev pub requiring : App → App
requiring a = record a { top = record a.top { subcommand_required = true } }

-- a command that has a version
abbrev pub versioned : App → App
versioned a = record a { top = record a.top { has_version = true } }

-- bitemporal --version, bitemporal run [--audit] [FILE], and bitemporal check [FILE]
abbrev pub bitemporal : App
bitemporal =
    with_subcommand
    (with_subcommand (requiring (versioned (new_app (codes "bitemporal")))) run_command.top)
    (script_command (codes "check")).top

-- the flag of this name is set
abbrev pub IsSet : Text → List Row → Type 0
IsSet name rows = first_of name rows ≡ Some (codes "true")

-- --audit is set
abbrev pub IsAudited : List Row → Type 0
IsAudited = IsSet (codes "audit")

-- the mode that a subcommand with its matches chooses
abbrev pub IsMode : Text × List Row → Mode → Type 0
IsMode chosen Run = (chosen.0 ≡ codes "run") × ¬ IsAudited chosen.1
IsMode chosen RunAudited = (chosen.0 ≡ codes "run") × IsAudited chosen.1
IsMode chosen Check = chosen.0 ≡ codes "check"

-- the mode and the file that a subcommand chooses
abbrev pub Chooses : Option (Text × List Row) → Mode → Option Text → Type 0
Chooses None mode file = ⊥
Chooses (Some chosen) mode file = IsMode chosen mode × (file ≡ first_of (codes "FILE") chosen.1)

-- the word begins with a hyphen
abbrev pub has_hyphen : Text → Bool
has_hyphen [] = false
has_hyphen (byte ∷ rest) = byte == 45

-- the words after a subcommand name this file, or none: after -- its name may begin with a hyphen
abbrev pub NamesFile : List Text → Option Text → Type 0
NamesFile [] file = file ≡ None
NamesFile (name ∷ []) file = (has_hyphen name ≡ false) × (file ≡ Some name)
NamesFile (dashes ∷ name ∷ []) file = (dashes ≡ codes "--") × (file ≡ Some name)
NamesFile (dashes ∷ name ∷ word ∷ more) file = ⊥

-- a line with --audit among its words: it is first, or after the name of the file
abbrev pub AuditsFile : List Text → Option Text → Type 0
AuditsFile [] file = ⊥
AuditsFile (word ∷ rest) file =
    ((word ≡ codes "--audit") × NamesFile rest file)
    ⊎ ((rest ≡ codes "--audit" ∷ []) × NamesFile (word ∷ []) file)

-- a subcommand, and the words after it
abbrev pub IsSubcommandFor : Text → List Text → Mode → Option Text → Type 0
IsSubcommandFor subcommand rest Run file = (subcommand ≡ codes "run") × NamesFile rest file
IsSubcommandFor subcommand rest RunAudited file = (subcommand ≡ codes "run") × AuditsFile rest file
IsSubcommandFor subcommand rest Check file = (subcommand ≡ codes "check") × NamesFile rest file

-- the program's name, the subcommand of the mode, and the file or none
abbrev pub IsCommandLineFor : List Text → Mode → Option Text → Type 0
IsCommandLineFor [] mode file = ⊥
IsCommandLineFor (program ∷ []) mode file = ⊥
IsCommandLineFor (program ∷ subcommand ∷ rest) mode file = IsSubcommandFor subcommand rest mode file

-- clap finds no fault in the line, and chooses the mode and the file
abbrev pub IsReadAs : List Text → Mode → Option Text → Type 0
IsReadAs words mode file =
    (fault_of bitemporal words ≡ []) × Chooses (subcommand_of bitemporal words) mode file

-- the line calls for this mode and file: it has one of the program's forms, or clap reads it so
abbrev pub CallsFor : List Text → Mode → Option Text → Type 0
CallsFor words mode file = IsCommandLineFor words mode file ⊎ IsReadAs words mode file

-- clap finds this kind of fault in the words, or else finds none, and they name no subcommand
abbrev pub IsLineFault : List Text → ErrorKind → Type 0
IsLineFault words kind = IsAmong kind (fault_of bitemporal words)
    ⊎ ((kind ≡ MissingSubcommand) × (fault_of bitemporal words ≡ []))
