-- The words that ask for a copy of a store.
use Rattle.std.specs.Prelude.{◌&&◌, [], ◌∷◌, Bool, List, None, Option, Some, codes}
use Rattle.std.specs.Prelude.{if◌then◌else◌, not}
use Rattle.std.specs.Str.{bytes_eq}
use Rattle.clap.specs.Words.{Text}
use Rattle.command_line.specs.CommandLine.{has_hyphen}

-- a name begins with no hyphen
abbrev pub is_name : Text → Bool
is_name word = not (has_hyphen word)

-- the store and the file that three words name: STORE --backup FILE, or --backup FILE STORE
abbrev pub backup_by : Text → Text → Text → Option (Text × Text)
backup_by first second third =
    if bytes_eq second (codes "--backup") && (is_name first && is_name third)
    then Some (first, third)
    else (if bytes_eq first (codes "--backup") && (is_name second && is_name third)
    then Some (third, second)
    else None)

-- the names of a command line, after the program's name
abbrev pub backup_in : List Text → Option (Text × Text)
backup_in (program ∷ first ∷ second ∷ third ∷ []) = backup_by first second third
backup_in _ = None
