-- The commands of a session: what a line asks for that begins with a dot, and what is reported of
-- it.
use Rattle.std.specs.Prelude.{◌≡◌, ◌⊎◌, ◌&&◌, ◌++◌, ◌-◌, ◌∷◌, ℕ, Bool, List, [], MatchOption}
use Rattle.std.specs.Prelude.{None, Option, Some, bytes_eq, codes, drop, false, if◌then◌else◌, true}
use Rattle.std.specs.Prelude.{◌==◌, length, not, take, ⊤}
use Rattle.std.specs.Char.{is_ascii_alphabetic, is_ascii_whitespace}
use Rattle.std.specs.Fmt.{decimal}
use Rattle.std.specs.List.{list_all, prefix_len, suffix_len, take_while}
use Rattle.std.specs.Str.{IsUtf8}
use Rattle.period_core.specs.Codes.{code_of, name_of}
use Rattle.period_core.specs.declared.refusal.Refusal.{Refusal}
use Rattle.period_core.specs.declared.refusal.Refusal.TheVariants.{Memory, NotUtf8, Store}
use Rattle.period_core.specs.declared.refusal.Refusal.TheVariants.{Syntax}
use Rattle.sql_statements.specs.Lexis.{is_blank}
use Rattle.sqlite.specs.Store.{Ghosts}
use Rattle.version_store.specs.StoreState.{IsStoreRefusal, SparesOthers}
use Rattle.history_model.specs.Histories.{History, clock_of}
use Rattle.script_engine.specs.engine.EngineState.{EngineState}
use Rattle.script_engine.specs.engine.Stored.{WasUsable}
use Rattle.command_line.specs.declared.fault.RunFault.{RunFault}
use Rattle.command_line.specs.declared.fault.RunFault.TheVariants as fault
use Rattle.bitemporal_file.specs.Copies.{IsBackupFault, IsFileOf}
use Rattle.bitemporal_file.specs.Listing.{clock_line, listing_of, record_line}
use Rattle.bitemporal_file.specs.Verification.{verification_of}
use Rattle.bitemporal_file.specs.declared.commands.SessionCommand.{SessionCommand}
use Rattle.bitemporal_file.specs.declared.commands.SessionCommand.TheVariants.{Backup, Clock}
use Rattle.bitemporal_file.specs.declared.commands.SessionCommand.TheVariants.{Help, Tables, Verify}

-- ---- the command of a line

-- the word of a command
abbrev pub word_of : SessionCommand → List ℕ
word_of Tables = codes "tables"
word_of Clock = codes "clock"
word_of Verify = codes "verify"
word_of Backup = codes "backup"
word_of Help = codes "help"

-- the command of a word
abbrev pub command_named : List ℕ → Option SessionCommand
command_named word =
    if bytes_eq word (word_of Tables) then Some Tables
    else (if bytes_eq word (word_of Clock) then Some Clock
    else (if bytes_eq word (word_of Verify) then Some Verify
    else (if bytes_eq word (word_of Backup) then Some Backup
    else (if bytes_eq word (word_of Help) then Some Help else None))))

-- the word of a command, by the line after its dot: the letters with which that begins
abbrev pub word_in : List ℕ → List ℕ
word_in line = take_while is_ascii_alphabetic line

-- the rest of a line, after its word
abbrev pub after_word : List ℕ → List ℕ
after_word line = drop (length (word_in line)) line

-- a text without its leading blanks
abbrev pub unled : List ℕ → List ℕ
unled text = drop (prefix_len is_ascii_whitespace text) text

-- a text without its trailing blanks
abbrev pub untrailed : List ℕ → List ℕ
untrailed text = take (length text - suffix_len is_ascii_whitespace text) text

-- the name of a file after the word: all of the line but the blanks around it
abbrev pub file_in : List ℕ → List ℕ
file_in line = untrailed (unled (after_word line))

-- a text begins with a blank
abbrev pub begins_blank : List ℕ → Bool
begins_blank [] = false
begins_blank (byte ∷ bytes) = is_ascii_whitespace byte

-- the command makes a file
abbrev pub makes_file : SessionCommand → Bool
makes_file Backup = true
makes_file _ = false

-- a command's word is followed by what it wants: a blank and a name, or only blanks
abbrev pub fits : SessionCommand → List ℕ → Bool
fits command line =
    if makes_file command
    then begins_blank (after_word line) && not (length (file_in line) == 0)
    else list_all is_blank (after_word line)

-- the command of a line: its word alone is one's, and what the command wants follows
abbrev pub asked_by : List ℕ → Option SessionCommand → Option SessionCommand
asked_by line None = None
asked_by line (Some command) = if fits command line then Some command else None

-- the command of a line after its dot, if it is one
abbrev pub asked_in : List ℕ → Option SessionCommand
asked_in line = asked_by line (command_named (word_in line))

-- ---- the report of a line

-- a command is done
abbrev pub done_line : SessionCommand → List ℕ
done_line command = record_line (codes "command") (word_of command ∷ codes "done" ∷ [])

-- a command is refused, with more on the cause
abbrev pub refused_line : List ℕ → Refusal → List ℕ → List ℕ
refused_line word refusal cause =
    record_line (codes "command")
    (word ∷ codes "refused" ∷ decimal (code_of refusal) ∷ name_of refusal ∷ cause ∷ [])

-- the refusal for a fault that stopped a command
abbrev pub refusal_for : RunFault → Refusal
refusal_for (fault.Script refusal) = refusal
refusal_for fault.Memory = Memory
refusal_for _ = Store

-- the text of a fault's cause, if there is more to say than its refusal
abbrev pub cause_of : RunFault → List ℕ
cause_of fault.CopyThere = codes "the file of the copy is there already"
cause_of fault.CopyFailed = codes "cannot write the copy"
cause_of _ = []

-- the commands, each with what it does
abbrev pub help_text : List ℕ
help_text =
    record_line (codes "help") (codes ".tables" ∷ codes "the clock and the tables" ∷ [])
    ++ (record_line (codes "help") (codes ".clock" ∷ codes "the clock" ∷ [])
    ++ (record_line (codes "help") (codes ".verify"
    ∷ codes "the number of versions of each table and a sum of the history" ∷ [])
    ++ (record_line (codes "help") (codes ".backup FILE" ∷ codes "a copy of the store in FILE" ∷ [])
    ++ record_line (codes "help") (codes ".help" ∷ codes "the commands" ∷ []))))

-- the report of a command over a store that represents the history
abbrev pub report_of : History → SessionCommand → List ℕ
report_of history Tables = listing_of history
report_of history Clock = clock_line (clock_of history)
report_of history Verify = verification_of history
report_of history Backup = []
report_of history Help = help_text

-- a copy makes a file whose bytes hold a store of the history; the other commands make nothing
abbrev pub Makes : (List ℕ → List ℕ → Type 0) → History → List ℕ → SessionCommand → Type 0
Makes made history line Backup =
    (bytes : List ℕ) × IsFileOf history bytes × made (file_in line) bytes
Makes made history line _ = ⊤

-- a command may be stopped by a fault: memory is out, or the disk failed; a copy also by one of its
-- file
abbrev pub MayStop : SessionCommand → RunFault → Type 0
MayStop Backup fault = IsBackupFault fault
MayStop _ (fault.Script refusal) = IsStoreRefusal refusal
MayStop _ _ = ⊥

-- a command is refused for a fault of its work, or since the name of its file is no UTF-8
abbrev pub IsRefusedFor : List ℕ → SessionCommand → Refusal → List ℕ → Type 0
IsRefusedFor line command refusal cause =
    ((stopped : RunFault) × MayStop command stopped
    × (refusal ≡ refusal_for stopped) × (cause ≡ cause_of stopped))
    ⊎ ((command ≡ Backup) × ¬ IsUtf8 (file_in line) × (refusal ≡ NotUtf8) × (cause ≡ []))

-- a line is answered over such a store: by its command's report and that it is done, or by its
-- refusal; a line without a command is refused as bad syntax
abbrev pub IsAnswer : (List ℕ → List ℕ → Type 0) → History → List ℕ → List ℕ → Type 0
IsAnswer made history line told =
    MatchOption (asked_in line) (told ≡ refused_line (word_in line) Syntax [])
    (λ command. (Makes made history line command
    × (told ≡ report_of history command ++ done_line command))
    ⊎ ((refusal : Refusal) × (cause : List ℕ) × IsRefusedFor line command refusal cause
    × (told ≡ refused_line (word_in line) refusal cause)))

-- a line is answered so, if the system makes files, and the history stays
abbrev pub IsAnswered : (List ℕ → List ℕ → Type 0) → History → List ℕ → List ℕ → History → Type 0
IsAnswered made history line told last = IsAnswer made history line told × (last ≡ history)

-- a line is answered over an engine, whatever its database holds: its other tables stay
pub record IsAnsweredOver {S : Type 0} (g : Ghosts S) (first : EngineState S) (line told : List ℕ)
    (last : EngineState S) : Type 0 where
  pub usable : WasUsable g first.connection last.connection
  pub others : SparesOthers g first.connection last.connection
