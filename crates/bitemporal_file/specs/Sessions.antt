-- Sessions: the parts of an input that are run one after the other, as they are read, and the
-- commands between them.
use Rattle.std.specs.Prelude.{◌≡◌, ◌≤◌, ◌⊎◌, ◌+◌, ◌++◌, ◌∷◌, ℕ, Bool, List, [], Option, None}
use Rattle.std.specs.Prelude.{Result, All, Err, IfErr, IfSome, IsSome, Ok, Some, false, flat_map}
use Rattle.std.specs.Prelude.{length, true, ⊤}
use Rattle.std.specs.Io.KnownBytes.{Appends, Consumes}
use Rattle.sql_statements.specs.Lexemes.{Lexeme}
use Rattle.period_core.specs.declared.refusal.Refusal.{Refusal}
use Rattle.period_core.specs.declared.refusal.Refusal.TheVariants.{BadToken}
use Rattle.command_line.specs.declared.fault.RunFault.{RunFault}
use Rattle.command_line.specs.declared.fault.RunFault.TheVariants.{Memory, Read, Unfinished}
use Rattle.command_line.specs.declared.fault.RunFault.TheVariants.{Write}
use Rattle.script_engine.specs.script.Listening.{IsFrontRunBy}
use Rattle.script_engine.specs.script.Script.{MayRefuseScript}
use Rattle.bitemporal_file.specs.Notes.{TellsFirst, tally_from}
use Rattle.bitemporal_file.specs.Parts.{EndsAtSemicolon, HasNoCommand, HasNoToken}
use Rattle.bitemporal_file.specs.Parts.{IsBegun, IsCommandLine, IsUnfinished}
use Rattle.bitemporal_file.specs.Reporting.{AllButLast, EndsAtRefusal, IsReportFault}
use Rattle.bitemporal_file.specs.Reporting.{ReceivesResults}
use Rattle.bitemporal_file.specs.Reporting.{greatest_from, texts_from}
use Rattle.bitemporal_file.specs.ScriptRuns.{ScriptRun}
use Rattle.bitemporal_file.specs.declared.reporter.Reporter.{Reporter}

-- the refusal of what begins at this byte: a bad token's place is counted from the beginning of all
abbrev pub placed_at : ℕ → Refusal → Refusal
placed_at start (BadToken offset) = BadToken (start + offset)
placed_at start other = other

-- a part that begins at this byte is run as a script of its own; or it is refused as a whole, which
-- is its one result, and the state stays, as a history
abbrev pub PartStep : {H K : Type 0} → (H → List Lexeme → K → H → Type 0)
    → (Refusal → K) → ℕ → H → ScriptRun K → H → Type 0
PartStep IsStep refused start opening run last =
    ((made : IsFrontRunBy IsStep opening run.script run.results run.is_whole)
    × (last ≡ made.last))
    ⊎ ((refusal : Refusal) × MayRefuseScript run.script refusal
    × (run.results ≡ refused (placed_at start refusal) ∷ []) × (last ≡ opening))

-- ---- the turns of a session

-- a turn of a session: a part is run, or the line of a command is answered: its bytes, as many of
-- them as are held, and the answer
pub data Turn (K : Type 0) : Type 0 where
  Ran : (run : ScriptRun K) → Turn K
  LineAnswered : (bytes line told : List ℕ) → Turn K

-- the bytes of a turn
abbrev pub bytes_in : {K : Type 0} → Turn K → List ℕ
bytes_in (Ran run) = run.script
bytes_in (LineAnswered bytes line told) = bytes

-- the part that is run, if one is
abbrev pub runs_in : {K : Type 0} → Turn K → List (ScriptRun K)
runs_in (Ran run) = run ∷ []
runs_in (LineAnswered bytes line told) = []

-- the results of its statements: a command has none
abbrev pub results_in : {K : Type 0} → Turn K → List K
results_in (Ran run) = run.results
results_in (LineAnswered bytes line told) = []

-- there is nothing to report of a turn: no statement's result, and no answer to a command
abbrev pub IsSilent : {K : Type 0} → Turn K → Type 0
IsSilent (Ran run) = run.results ≡ []
IsSilent (LineAnswered bytes line told) = ⊥

-- the report of a turn, from the statement of a number on
abbrev pub text_in : {K : Type 0} → (ℕ → K → List ℕ) → ℕ → Turn K → List ℕ
text_in text n (Ran run) = texts_from text n run.results
text_in text n (LineAnswered bytes line told) = told

-- a line begins after the turn: after a command, and not after a semicolon
abbrev pub ends_line : {K : Type 0} → Turn K → Bool
ends_line (Ran run) = false
ends_line (LineAnswered bytes line told) = true

-- a turn's bytes are a part up to its semicolon or a command's line, after which this is left
abbrev pub IsTurn : {K : Type 0} → Bool → Turn K → Option (List ℕ) → Type 0
IsTurn starts (Ran run) left = EndsAtSemicolon run.script × HasNoCommand starts run.script
IsTurn starts (LineAnswered bytes line told) left = IsCommandLine starts bytes line left

-- a turn leads to a state, if its first byte is this one of the session
abbrev pub TurnStep : {H K : Type 0} → (H → List Lexeme → K → H → Type 0) → (Refusal → K)
    → (H → List ℕ → List ℕ → H → Type 0) → ℕ → H → Turn K → H → Type 0
TurnStep IsStep refused IsAnswered start opening (Ran run) last =
    PartStep IsStep refused start opening run last
TurnStep IsStep refused IsAnswered start opening (LineAnswered bytes line told) last =
    IsAnswered opening line told last

-- a reporter receives the results of a turn's statements, and the output what is reported of it
pub record ReceivesTurn {W N K : Type 0} (contents : W → Option (List ℕ))
    (errors : N → Option (List ℕ)) (text : ℕ → K → List ℕ) (status : K → ℕ) (forgotten : K → ℕ)
    (old : Reporter W N) (turn : Turn K) (goes_on : Bool) (new : Reporter W N) : Type 0 where
  pub results : ReceivesResults (λ out. None) errors text status forgotten
      old (results_in turn) goes_on new
  pub written : new.fault ≡ None
      → Appends (contents old.out) (contents new.out) (text_in text old.next turn)
  -- a fault is of the turn's report
  pub faulty : IsSome new.fault → ¬ IsSilent turn

-- ---- the turns of a session

-- the bytes of the turns, one after the other
abbrev pub bytes_of : {K : Type 0} → List (Turn K) → List ℕ
bytes_of turns = flat_map bytes_in turns

-- the parts that were run, in order
abbrev pub runs_of : {K : Type 0} → List (Turn K) → List (ScriptRun K)
runs_of turns = flat_map runs_in turns

-- the results of all statements
abbrev pub all_results : {K : Type 0} → List (Turn K) → List K
all_results turns = flat_map results_in turns

-- the report of some turns, from the statement of a number on
abbrev pub turns_text : {K : Type 0} → (ℕ → K → List ℕ) → ℕ → List (Turn K) → List ℕ
turns_text text n [] = []
turns_text text n (turn ∷ turns) =
    text_in text n turn ++ turns_text text (n + length (results_in turn)) turns

-- each turn is made from the state to which the one before it led, and the first of them begins at
-- this byte
abbrev pub LeadsThrough : {H K : Type 0} → (H → List Lexeme → K → H → Type 0) → (Refusal → K)
    → (H → List ℕ → List ℕ → H → Type 0) → ℕ → H → List (Turn K) → H → Type 0
LeadsThrough IsStep refused IsAnswered start opening [] last = last ≡ opening
LeadsThrough {H} IsStep refused IsAnswered start opening (turn ∷ turns) last =
    (middle : H) × TurnStep IsStep refused IsAnswered start opening turn middle
    × LeadsThrough IsStep refused IsAnswered (start + length (bytes_in turn)) middle turns last

-- known bytes are the turns' bytes, the first of which begins a line or does not, and then the rest
abbrev pub AreCut : {K : Type 0} → Bool → Option (List ℕ) → List (Turn K) → Option (List ℕ)
    → Type 0
AreCut starts known [] left = left ≡ known
AreCut starts known (turn ∷ turns) left =
    (rest : Option (List ℕ)) × Consumes known rest (bytes_in turn) × IsTurn starts turn rest
    × AreCut (ends_line turn) rest turns left

-- a line begins after the turns
abbrev pub begins_after : {K : Type 0} → Bool → List (Turn K) → Bool
begins_after starts [] = starts
begins_after starts (turn ∷ turns) = begins_after (ends_line turn) turns

-- why a session ends: memory is out, the input or the report fails, or what is left is unfinished
abbrev pub IsSessionFault : Bool → RunFault → Type 0
IsSessionFault failed Memory = ⊤
IsSessionFault failed Read = failed ≡ true
IsSessionFault failed Write = ⊤
IsSessionFault failed Unfinished = ⊤
IsSessionFault failed _ = ⊥

-- the known bytes of an input, which begin a line, of which these were not read as the session
-- ended, and whose reader has failed or not, begin with the bytes of the turns
pub record AreTurnsOf {K : Type 0} (known unread : Option (List ℕ)) (failed : Bool)
    (turns : List (Turn K)) (ended : Result Bool RunFault) : Type 0 where
  -- each is up to its semicolon, or the line of a command
  pub left : Option (List ℕ)
  pub cut : AreCut true known turns left
  -- if the session came to its end, no more than blanks and comments are left
  pub all : ended ≡ Ok true → IfSome left HasNoToken
  -- the session is unfinished only if more is left, without a semicolon or a command
  pub unfinished : ended ≡ Err Unfinished
      → IfSome left (λ rest. IsUnfinished rest × HasNoCommand (begins_after true turns) rest)
  -- if a read failed, no more than the beginning of a part was read after them
  pub read : ended ≡ Err Read → (bytes : List ℕ) × Consumes left unread bytes
      × IsBegun (begins_after true turns) bytes
  pub fault : IfErr ended (IsSessionFault failed)

-- the end of a session whose reporter received the turns' results, before a fault or not
pub record EndsWith {W N K : Type 0} (contents : W → Option (List ℕ))
    (errors : N → Option (List ℕ)) (text : ℕ → K → List ℕ) (status : K → ℕ) (forgotten : K → ℕ)
    (old : Reporter W N) (turns : List (Turn K)) (ended : Result Bool RunFault)
    (new : Reporter W N) : Type 0 where
  pub stops : new.stops ≡ old.stops
  -- the reporter is unused only if there are no results
  pub unused : new.is_unused ≡ true → (old.is_unused ≡ true) × (all_results turns ≡ [])
  pub worst : new.worst ≡ greatest_from status old.worst (all_results turns)
  pub low : old.worst ≤ 3 → new.worst ≤ 3
  -- the versions that all forget are counted, and the first are noted on standard error
  pub tally : new.notes.tally ≡ tally_from forgotten old.next old.notes.tally (all_results turns)
  pub told : TellsFirst errors old.notes new.notes
  -- the output got the reports, and nothing else, unless the report was at fault
  pub written : new.fault ≡ None
      → Appends (contents old.out) (contents new.out) (turns_text text old.next turns)
  pub faulty : IfSome new.fault (λ fault. IsReportFault fault × (ended ≡ Err fault))
  -- the report is said to be unwritten only if its reporter says so, after a turn that has one
  pub unwritten : ended ≡ Err Write → (new.fault ≡ Some Write) × ¬ All IsSilent turns
  -- the session is at its end, with --stop without a refusal; or at the first refusal
  pub whole : ended ≡ Ok true → old.stops ≡ true
      → All (λ result. status result ≡ 0) (all_results turns)
  pub stopped : ended ≡ Ok false
      → (old.stops ≡ true) × EndsAtRefusal status (all_results turns)
  -- with --stop no statement is run after one whose status is not 0, whatever the end
  pub stop : old.stops ≡ true → AllButLast (λ result. status result ≡ 0) (all_results turns)
