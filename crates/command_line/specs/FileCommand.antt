-- The command line of the second program, and what it asks for.
use Rattle.std.specs.Prelude.{◌≡◌, ◌⊎◌, ◌↔◌, ◌<◌, ◌++◌, ℕ, [], ◌∷◌, Bool, List, IsTrue, None}
use Rattle.std.specs.Prelude.{Option, Some}
use Rattle.std.specs.Prelude.{Err, Ok, Result, codes}
use Rattle.std.specs.Prelude.{drop, false, filter, length, map, not, true, unwrap_or}
use Rattle.std.specs.List.{All, IsDistinct, list_any}
use Rattle.std.specs.Str.{bytes_eq}
use Rattle.std.specs.Str.Parse.{ParsesUnsigned}
use Rattle.std.specs.String.{string_bytes}
use Rattle.clap.specs.Words.{App, IsAmong, Row, Rule, Text, all_of, fault_of, first_of, matches_of}
use Rattle.clap.specs.Words.{new_app, new_rule, with_rule}
use Rattle.clap.specs.declared.builder.action.ArgAction.TheVariants.{Append, Set, SetTrue}
use Rattle.clap.specs.declared.builder.value_parser.ValueParser.TheVariants.{Unsigned}
use Rattle.clap.specs.declared.error.kind.ErrorKind.{ErrorKind}
use Rattle.clap.specs.declared.error.kind.ErrorKind.TheVariants.{ArgumentConflict}
use Rattle.command_line.specs.CommandLine.{IsSet, has_hyphen, versioned}
use Rattle.command_line.specs.declared.file_command.Request.{Request}

-- STORE, which has to be there
abbrev pub store_word : Rule
store_word = record (new_rule (codes "STORE")) { action = Some Set; required = true }

-- FILE, any number of times
abbrev pub scripts_word : Rule
scripts_word = record (new_rule (codes "FILE")) { action = Some Append }

-- a flag of this name
abbrev pub flag_word : Text → Rule
flag_word name = record (new_rule name) { long = Some name; action = Some SetTrue }

-- --wait SECONDS, a whole number up to a day
abbrev pub wait_word : Rule
wait_word = record (new_rule (codes "wait")) {
  long = Some (codes "wait");
  action = Some Set;
  value_names = 1;
  parser = Some (Unsigned 0 86_400);
}

-- the names of the flags
abbrev pub flag_names : List Text
flag_names =
    codes "audit" ∷ codes "stop" ∷ codes "now" ∷ codes "clock-ahead" ∷ codes "tables"
    ∷ codes "verify" ∷ codes "read-only" ∷ []

-- bitemporal_file --version, and bitemporal_file STORE [FILE ..] [--wait SECONDS] with any of the
-- flags
abbrev pub bitemporal_file : App
bitemporal_file =
    with_rule (with_rule (with_rule (with_rule (with_rule (with_rule (with_rule (with_rule
    (with_rule (with_rule (versioned (new_app (codes "bitemporal_file"))) store_word) scripts_word)
    (flag_word (codes "audit"))) (flag_word (codes "stop"))) (flag_word (codes "now")))
    (flag_word (codes "clock-ahead"))) (flag_word (codes "tables"))) (flag_word (codes "verify")))
    (flag_word (codes "read-only"))) wait_word

-- the number that was read, or 0
abbrev pub ok_or_zero : Result ℕ (Unit {0}) → ℕ
ok_or_zero (Ok seconds) = seconds
ok_or_zero (Err none) = 0

-- a text says this number, of 32 bits; 0 if it says none
abbrev pub SaysSeconds : Text → ℕ → Type 0
SaysSeconds text seconds =
    (read : Result ℕ (Unit {0})) × ParsesUnsigned 32 10 text read × (seconds ≡ ok_or_zero read)

-- the seconds that a command line waits: 0 if it does not say
abbrev pub WaitsFor : Option Text → ℕ → Type 0
WaitsFor None seconds = seconds ≡ 0
WaitsFor (Some text) seconds = SaysSeconds text seconds

-- the matches of a command line ask for this
pub record Asks (rows : List Row) (asked : Request) : Type 0 where
  pub store : string_bytes asked.store ≡ unwrap_or (first_of (codes "STORE") rows) []
  -- the scripts in files, in order, or none
  pub files : map string_bytes asked.files.items ≡ unwrap_or (all_of (codes "FILE") rows) []
  pub audits : IsTrue asked.audits ↔ IsSet (codes "audit") rows
  pub stops : IsTrue asked.stops ↔ IsSet (codes "stop") rows
  pub timed : IsTrue asked.timed ↔ IsSet (codes "now") rows
  pub clock_ahead : IsTrue asked.clock_ahead ↔ IsSet (codes "clock-ahead") rows
  pub lists : IsTrue asked.lists ↔ IsSet (codes "tables") rows
  pub verifies : IsTrue asked.verifies ↔ IsSet (codes "verify") rows
  pub reads_only : IsTrue asked.reads_only ↔ IsSet (codes "read-only") rows
  pub waits : WaitsFor (first_of (codes "wait") rows) asked.wait

-- an argument calls for a run: --audit, --stop, --now, or a script
abbrev pub NeedsRun : Request → Type 0
NeedsRun asked = (asked.audits ≡ true) ⊎ (asked.stops ≡ true) ⊎ (asked.timed ≡ true)
    ⊎ (0 < length asked.files.items)

-- two arguments exclude each other: --tables and --verify, one of the two and what calls for a
-- run, or --read-only and --now; or --clock-ahead lacks --now
abbrev pub HasConflict : Request → Type 0
HasConflict asked = ((asked.lists ≡ true) × (asked.verifies ≡ true))
    ⊎ ((asked.lists ≡ true) × NeedsRun asked)
    ⊎ ((asked.verifies ≡ true) × NeedsRun asked)
    ⊎ ((asked.reads_only ≡ true) × (asked.timed ≡ true))
    ⊎ ((asked.clock_ahead ≡ true) × (asked.timed ≡ false))

-- ---- the words

-- the words after the program's name
abbrev pub arguments_of : List Text → List Text
arguments_of = drop 1

-- the words that begin with no hyphen: the names of the store and of the scripts
abbrev pub names_in : List Text → List Text
names_in words = filter (λ word. not (has_hyphen word)) words

-- the words that begin with a hyphen: the flags
abbrev pub flags_in : List Text → List Text
flags_in words = filter has_hyphen words

-- whether the word is among these
abbrev pub is_among : Text → List Text → Bool
is_among word words = list_any (bytes_eq word) words

-- the word is among the words
abbrev pub IsOneOf : Text → List Text → Type 0
IsOneOf word [] = ⊥
IsOneOf word (one ∷ others) = (word ≡ one) ⊎ IsOneOf word others

-- a flag of the program: two hyphens, and one of their names
abbrev pub IsFlag : Text → Type 0
IsFlag word = IsOneOf word (map (λ name. codes "--" ++ name) flag_names)

-- a flag excludes all other words but STORE and --read-only
abbrev pub ExcludesOthers : Text → List Text → Type 0
ExcludesOthers flag words =
    All (λ word. (word ≡ flag) ⊎ (word ≡ codes "--read-only")) (flags_in words)
    × (length (names_in words) ≡ 1)

-- the words after the program's name are in the usual form: STORE and any FILEs, and flags, each
-- once, in any place; --tables and --verify each are alone, --read-only is without --now, and
-- --clock-ahead with it
pub record IsFileCommand (words : List Text) : Type 0 where
  pub store : 0 < length (names_in words)
  pub flags : All IsFlag (flags_in words)
  pub once : IsDistinct bytes_eq (flags_in words)
  pub lists : is_among (codes "--tables") words ≡ true → ExcludesOthers (codes "--tables") words
  pub verifies : is_among (codes "--verify") words ≡ true → ExcludesOthers (codes "--verify") words
  pub reads_only : is_among (codes "--read-only") words ≡ true
      → is_among (codes "--now") words ≡ false
  pub ahead : is_among (codes "--clock-ahead") words ≡ true
      → is_among (codes "--now") words ≡ true

-- the words ask for this
pub record AskFor (words : List Text) (asked : Request) : Type 0 where
  pub names : names_in words ≡ string_bytes asked.store ∷ map string_bytes asked.files.items
  pub audits : asked.audits ≡ is_among (codes "--audit") words
  pub stops : asked.stops ≡ is_among (codes "--stop") words
  pub timed : asked.timed ≡ is_among (codes "--now") words
  pub clock_ahead : asked.clock_ahead ≡ is_among (codes "--clock-ahead") words
  pub lists : asked.lists ≡ is_among (codes "--tables") words
  pub verifies : asked.verifies ≡ is_among (codes "--verify") words
  pub reads_only : asked.reads_only ≡ is_among (codes "--read-only") words
  pub waits : asked.wait ≡ 0

-- ---- why words are no command

-- clap finds this kind of fault in the words, or else finds none, and what they ask for has
-- arguments in conflict
abbrev pub IsFileFault : List Text → ErrorKind → Type 0
IsFileFault words kind = IsAmong kind (fault_of bitemporal_file words)
    ⊎ ((kind ≡ ArgumentConflict)
    × ((asked : Request) × Asks (matches_of bitemporal_file words) asked × HasConflict asked))
