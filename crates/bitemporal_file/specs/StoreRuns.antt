-- A store that the program opens, uses as its command line asks, and closes.
use Rattle.std.specs.Prelude.{◌≡◌, ◌⊎◌, ◌∷◌, ◌&&◌, ◌≤ℤ◌, ℕ, ℤ, Bool, List, [], Option, Result, Ok}
use Rattle.std.specs.Prelude.{Err, IfErr, MatchOption, OnOk, false, map, not, true}
use Rattle.std.specs.Io.KnownBytes.{Appends}
use Rattle.std.specs.String.{string_bytes}
use Rattle.sqlite.specs.Held.{Held, state}
use Rattle.sqlite.specs.Store.{Ghosts}
use Rattle.period_core.specs.declared.refusal.Refusal.{Refusal}
use Rattle.sql_statements.specs.Lexemes.{Lexeme}
use Rattle.history_model.specs.Histories.{History, clock_of}
use Rattle.statement_reports.specs.declared.outcome.Outcome.{Outcome}
use Rattle.statement_reports.specs.AuditedReport.{entry_text}
use Rattle.statement_reports.specs.Report.{text_of}
use Rattle.version_store.specs.StoreState.{IsStoreRefusal, IsUsable, SparesOthers}
use Rattle.script_engine.specs.engine.EngineState.{EngineState}
use Rattle.script_engine.specs.engine.Stored.{DatabaseRepresents, EngineRepresents}
use Rattle.script_engine.specs.engine.Opens.{IsAheadOf, Opens, RefusesStore}
use Rattle.script_engine.specs.engine.Stored.{RepresentsSome, WasUsable}
use Rattle.script_engine.specs.script.AuditedRuns.{AuditedPieceStep}
use Rattle.script_engine.specs.script.Noted.{NotedStep, NotedStepOver}
use Rattle.script_engine.specs.script.Script.{KeptStepOver, PieceStep, PieceStepOver}
use Rattle.script_engine.specs.script.Timed.{TimedPieceStep, TimedPieceStepOver}
use Rattle.command_line.specs.declared.fault.RunFault.{RunFault}
use Rattle.command_line.specs.declared.fault.RunFault.TheVariants.{ClockAhead, Script, Write}
use Rattle.command_line.specs.declared.file_command.Request.{Request}
use Rattle.bitemporal_file.specs.Commands as over
use Rattle.bitemporal_file.specs.Commands.{IsAnswered}
use Rattle.bitemporal_file.specs.Inspections.{inspection_in, report_asked}
use Rattle.bitemporal_file.specs.Reporting.{entry_status, refused_entry, result_status}
use Rattle.bitemporal_file.specs.Reporting.{noted_refusal, timed_refusal}
use Rattle.bitemporal_file.specs.ScriptRuns.{AreOfReaders, AreRun, Ends, LeadsTo, ScriptRun}
use Rattle.bitemporal_file.specs.Sessions.{AreTurnsOf, EndsWith, LeadsThrough, Turn, runs_of}
use Rattle.bitemporal_file.specs.StoreFiles.{Filing, IsItsFault}
use Rattle.bitemporal_file.specs.declared.inspections.Inspection.{Inspection}
use Rattle.bitemporal_file.specs.declared.reporter.Reporter.{Reporter}

-- whatever history the engine represented, it represents one to which that led, if its disk
-- returned what was written
abbrev pub LeadsEngine : {S : Type 0} → Ghosts S → EngineState S → EngineState S
    → (History → History → Type 0) → Type 0
LeadsEngine g old new Led =
    IsUsable g new.connection → (history : History) → EngineRepresents g history old
    → RepresentsSome g (Led history) new

-- whatever history the database represented at its opening, it represents one to which that led as
-- it is closed, and that is committed, if its disk returned what was written
abbrev pub LeadsDatabase : {S : Type 0} → Ghosts S → Held S → Held S
    → (History → History → Type 0) → Type 0
LeadsDatabase g opened closed Led =
    IsUsable g closed → (history : History) → DatabaseRepresents history (state g opened).now
    → (last : History) × Led history last × DatabaseRepresents last (state g closed).now
    × ((state g closed).committed ≡ (state g closed).now)

-- whatever the database holds: opening it gave an engine, from which that led to one whose
-- connection is closed
abbrev pub LeadsOver : {S : Type 0} → Ghosts S → Held S → Held S
    → (EngineState S → EngineState S → Type 0) → Type 0
LeadsOver {S} g opened closed Led =
    (first : EngineState S) × (last : EngineState S) × Opens g opened first × Led first last
    × (closed ≡ last.connection)

-- a store is wanted in time: at the system's time, unless its clock may be ahead of that
abbrev pub is_in_time : Request → Bool
is_in_time asked = asked.timed && not asked.clock_ahead

-- the clock of the store is ahead of a time that the system told
abbrev pub IsAhead : {S : Type 0} → Ghosts S → (ℤ → Type 0) → (opened left : Held S) → Type 0
IsAhead g tells opened left = (time : ℤ) × tells time × IsAheadOf g opened left time

-- why a store that is wanted in time, or not, is not used, and how its connection is left: the
-- database is refused as a store; or the clock is ahead, and it is wanted in time
abbrev pub IsUnusedFor : {S : Type 0} → Ghosts S → (ℤ → Type 0) → Bool → Held S → RunFault → Held S
    → Type 0
IsUnusedFor g tells in_time opened fault left =
    ((refusal : Refusal) × RefusesStore g opened refusal left × (fault ≡ Script refusal))
    ⊎ ((in_time ≡ true) × (fault ≡ ClockAhead) × IsAhead g tells opened left)

-- a store that is used is in time, if it is wanted so: the system told a time that is no earlier
-- than the clock of whatever history its database stood for as it was opened
abbrev pub IsInTime : {S : Type 0} → Ghosts S → (ℤ → Type 0) → Bool → (opened closed : Held S)
    → Type 0
IsInTime g tells in_time opened closed =
    in_time ≡ true → (time : ℤ) × tells time × (IsUsable g closed → (history : History)
    → DatabaseRepresents history (state g opened).now → clock_of history ≤ℤ time)

-- a run of results of this kind: the step of a history that each is, and that of an engine,
-- whatever its database holds; what a command does in a history, and what over an engine; what is
-- reported of a statement that is refused as it is read; the records of each, its exit status, and
-- the number of versions that it forgets. The steps of a history lead so, and those of an engine
module _ {E K W N : Type 0} (IsStep : History → List Lexeme → K → History → Type 0)
    (IsStepOver : E → List Lexeme → K → E → Type 0)
    (IsAnswered : History → List ℕ → List ℕ → History → Type 0)
    (IsAnsweredOver : E → List ℕ → List ℕ → E → Type 0)
    (refused : Refusal → K) (contents : W → Option (List ℕ)) (errors : N → Option (List ℕ))
    (text : ℕ → K → List ℕ) (status : K → ℕ) (forgotten : K → ℕ)
    (Leads : (History → History → Type 0) → Type 0) (Over : (E → E → Type 0) → Type 0) where
  -- the scripts that the readers have, one of which has failed or not, are run one after the other
  abbrev pub RunsScripts : List (Option (List ℕ)) → Bool → Reporter W N → Result Bool RunFault
      → Reporter W N → Type 0
  RunsScripts readers failed old ended new =
      (runs : List (ScriptRun K)) × AreOfReaders readers runs × AreRun runs ended new.fault
      × Ends contents errors text status forgotten readers failed old runs ended new
      × Leads (λ history last. LeadsTo IsStep history runs last)
      × Over (λ first last. LeadsTo IsStepOver first runs last)

  -- the parts of an input, of which this was not read in the end, and whose reader has failed or
  -- not, are run as they are read, and the commands between them are done
  abbrev pub RunsSession : (known unread : Option (List ℕ)) → Bool → Reporter W N
      → Result Bool RunFault → Reporter W N → Type 0
  RunsSession known unread failed old ended new =
      (turns : List (Turn K)) × AreTurnsOf known unread failed turns ended
      × AreRun (runs_of turns) ended new.fault
      × EndsWith contents errors text status forgotten old turns ended new
      × Leads (λ history last. LeadsThrough IsStep refused IsAnswered 0 history turns last)
      × Over (λ first last. LeadsThrough IsStepOver refused IsAnsweredOver 0 first turns last)

  -- scripts, or if there is none the input
  abbrev pub RunsGiven : List (Option (List ℕ)) → (known unread : Option (List ℕ)) → Bool
      → Reporter W N → Result Bool RunFault → Reporter W N → Type 0
  RunsGiven [] known unread failed old ended new = RunsSession known unread failed old ended new
  RunsGiven (reader ∷ readers) known unread failed old ended new =
      RunsScripts (reader ∷ readers) failed old ended new

-- whether a read failed: of the files of the scripts that are named, or else of the input
abbrev pub failed_in : {X : Type 0} → List X → (input files : Bool) → Bool
failed_in [] input files = input
failed_in (name ∷ names) input files = files

-- a run of results of a kind over the store of a connection, from its opening to its end
module _ {S K W N : Type 0} (g : Ghosts S) (made : List ℕ → List ℕ → Type 0)
    (IsStep : History → List Lexeme → K → History → Type 0)
    (IsStepOver : EngineState S → List Lexeme → K → EngineState S → Type 0)
    (refused : Refusal → K) (contents : W → Option (List ℕ)) (errors : N → Option (List ℕ))
    (text : ℕ → K → List ℕ) (status : K → ℕ) (forgotten : K → ℕ) where
  abbrev pub RunsKind : List (Option (List ℕ)) → (known unread : Option (List ℕ)) → Bool
      → Reporter W N → Held S → Result Bool RunFault → Held S → Reporter W N → Type 0
  RunsKind readers known unread failed old opened ended closed new =
      RunsGiven IsStep IsStepOver (IsAnswered made) (over.IsAnsweredOver g) refused contents errors
      text status forgotten
      (LeadsDatabase g opened closed) (LeadsOver g opened closed) readers known unread failed old
      ended new

-- a run at the system's time, or not
module _ {S K W N : Type 0} (g : Ghosts S) (made : List ℕ → List ℕ → Type 0)
    (IsStep : History → List Lexeme → K → History → Type 0)
    (IsStepOver : EngineState S → List Lexeme → K → EngineState S → Type 0)
    (refused : Refusal → K) (contents : W → Option (List ℕ)) (errors : N → Option (List ℕ))
    (text : ℕ → K → List ℕ) (status : K → ℕ) (forgotten : K → ℕ) where
  abbrev pub RunsWithClock : Bool → List (Option (List ℕ)) → (known unread : Option (List ℕ))
      → Bool → Reporter W N → Held S → Result Bool RunFault → Held S → Reporter W N → Type 0
  RunsWithClock false =
      RunsKind g made IsStep IsStepOver refused contents errors text status forgotten
  RunsWithClock true =
      RunsKind g made (TimedPieceStep IsStep refused) (TimedPieceStepOver g IsStepOver refused)
      (timed_refusal refused) contents errors (λ number timed. text number timed.kept)
      (λ timed. status timed.kept) (λ timed. forgotten timed.kept)

-- a run that notes the versions that statements forget, by the result beside each number
module _ {S K W N : Type 0} (g : Ghosts S) (made : List ℕ → List ℕ → Type 0)
    (IsStep : History → List Lexeme → K → History → Type 0)
    (IsStepOver : EngineState S → List Lexeme → K → EngineState S → Type 0)
    (result_of : K → Result Outcome Refusal) (refused : Refusal → K)
    (contents : W → Option (List ℕ)) (errors : N → Option (List ℕ))
    (text : ℕ → K → List ℕ) (status : K → ℕ) where
  abbrev pub RunsNoting : Bool → List (Option (List ℕ)) → (known unread : Option (List ℕ))
      → Bool → Reporter W N → Held S → Result Bool RunFault → Held S → Reporter W N → Type 0
  RunsNoting =
      RunsWithClock g made (NotedStep IsStep result_of) (NotedStepOver IsStepOver result_of)
      (noted_refusal refused) contents errors (λ number noted. text number noted.kept)
      (λ noted. status noted.kept) (λ noted. noted.forgotten)

-- a run with an audit of each answer, or without; where the system makes files
abbrev pub RunsAs : {S W N : Type 0} → Ghosts S → (List ℕ → List ℕ → Type 0)
    → (W → Option (List ℕ)) → (N → Option (List ℕ)) → (audits timed : Bool)
    → List (Option (List ℕ)) → (known unread : Option (List ℕ)) → Bool → Reporter W N → Held S
    → Result Bool RunFault → Held S → Reporter W N → Type 0
RunsAs g made contents errors false =
    RunsNoting g made PieceStep (PieceStepOver g) (λ result. result) (λ refusal. Err refusal)
    contents errors text_of result_status
RunsAs g made contents errors true =
    RunsNoting g made AuditedPieceStep (KeptStepOver g (λ entry. entry.result))
    (λ entry. entry.result) refused_entry contents errors entry_text entry_status

-- a store that is opened and left, and the run in between, or that nothing was run; if it is
-- used, its connection was usable as it was opened if it is so as it is left, and the other tables
-- of its database are as they were
abbrev pub Uses : {S T W N : Type 0} → Ghosts S → Filing S → (Reporter W N → Type 0)
    → (Held S → Result T RunFault → Held S → Reporter W N → Type 0)
    → Result ℕ RunFault → Reporter W N → Type 0
-- the run is reported whole, the status is the greatest of its statements', and the store is closed
-- with all that is committed in it
Uses {S} {T} g files IsUntouched Runs (Ok status) new =
    (opened : Held S) × (closed : Held S) × files.Opens opened × files.Keeps closed
    × WasUsable g opened closed × SparesOthers g opened closed
    × ((value : T) × Runs opened (Ok value) closed new) × (status ≡ new.worst)
-- nothing was run, since there is no connection, or since its database is no store; or the run
-- ended in the fault, or else the store was not closed
Uses {S} {T} g files IsUntouched Runs (Err fault) new =
    (files.Fails fault × IsUntouched new)
    ⊎ ((opened : Held S) × (left : Held S) × files.Opens opened × files.Leaves left
    × (((refusal : Refusal) × RefusesStore g opened refusal left × (fault ≡ Script refusal)
    × IsUntouched new)
    ⊎ ((ended : Result T RunFault) × WasUsable g opened left × SparesOthers g opened left
    × Runs opened ended left new × IsItsFault (files.Unclosed left) ended fault)))

-- the request of a command line is run over a store, or nothing is run, since its clock is ahead
-- and it is wanted in time: by which times the system told, by how the store's files are opened and
-- left, by which bytes the names of scripts have, and by what is known of the input before and
-- after, which is read only if the store is used, and whether a read of it failed
abbrev pub RunsAsked : {S I W N : Type 0} → Ghosts S → (List ℕ → List ℕ → Type 0) → (ℤ → Type 0)
    → (W → Option (List ℕ)) → (N → Option (List ℕ)) → Filing S → (List ℕ → Option (List ℕ))
    → (I → Option (List ℕ)) → (I → Bool) → Request → Reporter W N → I → Result ℕ RunFault
    → Reporter W N → I → Type 0
RunsAsked {S} g made tells contents errors files content_of remaining failed asked old unread result
    new input =
    Uses g files (λ reporter. (reporter ≡ old) × (input ≡ unread))
    (λ opened ended closed last. IsInTime g tells (is_in_time asked) opened closed
    × RunsAs g made contents errors asked.audits asked.timed
    (map content_of (map string_bytes asked.files.items)) (remaining unread) (remaining input)
    (failed input) old opened ended closed last)
    result new
    ⊎ ((is_in_time asked ≡ true) × (result ≡ Err ClockAhead) × (new ≡ old) × (input ≡ unread)
    × (opened : Held S) × (left : Held S) × files.Opens opened × files.Leaves left
    × IsAhead g tells opened left)

-- the causes for which nothing is written of an open store
abbrev pub IsRefusalFault : RunFault → Type 0
IsRefusalFault fault = (refusal : Refusal) × IsStoreRefusal refusal × (fault ≡ Script refusal)

-- an open store is inspected: no statement is reported, and the history stays
pub record IsInspected {S T W N : Type 0} (g : Ghosts S) (contents : W → Option (List ℕ))
    (inspection : Inspection) (old : Reporter W N) (opened : Held S) (ended : Result T RunFault)
    (closed : Held S) (new : Reporter W N) : Type 0 where
  pub unreported : new ≡ record old { out = new.out }
  pub same : LeadsDatabase g opened closed (λ history last. last ≡ history)
  -- the output got the report of the history for which the database stood, and nothing else
  pub told : OnOk ended (IsUsable g closed → (history : History)
      → DatabaseRepresents history (state g opened).now
      → Appends (contents old.out) (contents new.out) (report_asked inspection history))
  -- or a write failed; or memory is out or the disk failed, and the output got nothing
  pub fault : IfErr ended (λ fault. (fault ≡ Write) ⊎ (IsRefusalFault fault × (new.out ≡ old.out)))

-- a store is opened, inspected and closed
abbrev pub Inspects : {S W N : Type 0} → Ghosts S → (W → Option (List ℕ)) → Filing S → Inspection
    → Reporter W N → Result ℕ RunFault → Reporter W N → Type 0
Inspects {S} {W} {N} g contents files inspection old result new =
    Uses g files (λ reporter. reporter ≡ old) (IsInspected {T = Unit {0}} g contents inspection old)
    result new

-- a command line is obeyed: the store is inspected as it asks, and no input is read; or else what
-- it asks for is run
abbrev pub DoesAsked : {S I W N : Type 0} → Ghosts S → (List ℕ → List ℕ → Type 0) → (ℤ → Type 0)
    → (W → Option (List ℕ)) → (N → Option (List ℕ)) → Filing S → (List ℕ → Option (List ℕ))
    → (I → Option (List ℕ)) → (I → Bool) → Request → Reporter W N → I → Result ℕ RunFault
    → Reporter W N → I → Type 0
DoesAsked g made tells contents errors files content_of remaining failed asked old unread result
    new input =
    MatchOption (inspection_in asked)
    (RunsAsked g made tells contents errors files content_of remaining failed asked
    (record old { stops = asked.stops }) unread result new input)
    (λ inspection. Inspects g contents files inspection old result new × (input ≡ unread))
