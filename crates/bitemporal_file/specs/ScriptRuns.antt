-- Scripts that are run one after the other, and their reports.
use Rattle.std.specs.Prelude.{◌≡◌, ◌≢◌, ◌≤◌, ◌++◌, ◌∷◌, ℕ, Bool, List, [], Option, None, Result}
use Rattle.std.specs.Prelude.{Ok, Err, Some}
use Rattle.std.specs.Prelude.{All, IfErr, IfSome, false, length, true, ⊤}
use Rattle.std.specs.Io.KnownBytes.{Appends}
use Rattle.sql_statements.specs.Lexemes.{Lexeme}
use Rattle.script_engine.specs.script.Listening.{IsFrontRunBy}
use Rattle.command_line.specs.Reading.{read_of}
use Rattle.period_core.specs.declared.refusal.Refusal.{Refusal}
use Rattle.script_engine.specs.script.Script.{MayRefuseScript, most_bytes}
use Rattle.command_line.specs.declared.fault.RunFault.{RunFault}
use Rattle.command_line.specs.declared.fault.RunFault.TheVariants.{Memory, Read, Script, Write}
use Rattle.bitemporal_file.specs.Notes.{TellsFirst, tally_from}
use Rattle.bitemporal_file.specs.Reporting.{AllButLast, EndsAtRefusal, IsReportFault}
use Rattle.bitemporal_file.specs.Reporting.{greatest_from, texts_from}
use Rattle.bitemporal_file.specs.declared.notes.Tally.{Tally}
use Rattle.bitemporal_file.specs.declared.reporter.Reporter.{Reporter}

-- the run of a script: its bytes, the results of its statements, and whether it came to its end
pub record ScriptRun (K : Type 0) : Type 0 where
  pub script : List ℕ
  pub results : List K
  pub is_whole : Bool

-- the results belong to the scripts, each run from the state to which the one before it led, as
-- a history
abbrev pub LeadsTo : {H K : Type 0} → (H → List Lexeme → K → H → Type 0)
    → H → List (ScriptRun K) → H → Type 0
LeadsTo IsStep opening [] last = last ≡ opening
LeadsTo IsStep opening (run ∷ runs) last =
    (made : IsFrontRunBy IsStep opening run.script run.results run.is_whole)
    × LeadsTo IsStep made.last runs last

-- the scripts are the first that the readers have, each of the bytes that are known of it
abbrev pub AreOfReaders : {K : Type 0} → List (Option (List ℕ)) → List (ScriptRun K) → Type 0
AreOfReaders readers [] = Unit {0}
AreOfReaders [] (run ∷ runs) = ⊥
AreOfReaders (known ∷ readers) (run ∷ runs) =
    IfSome known (λ all. run.script ≡ read_of most_bytes all) × AreOfReaders readers runs

-- a run that came to its end
abbrev pub IsWhole : {K : Type 0} → ScriptRun K → Type 0
IsWhole run = run.is_whole ≡ true

-- scripts that were run one after the other, up to their end or to what ended them, with this fault
-- of the report or none
pub record AreRun {K : Type 0} (runs : List (ScriptRun K)) (ended : Result Bool RunFault)
    (fault : Option RunFault) : Type 0 where
  -- each came to its end before the next began
  pub before : AllButLast IsWhole runs
  -- the last too, if neither --stop nor the report ended it
  pub last : fault ≡ None → ended ≢ Ok false → All IsWhole runs

-- the results of all, in order
abbrev pub results_of : {K : Type 0} → List (ScriptRun K) → List K
results_of [] = []
results_of (run ∷ runs) = run.results ++ results_of runs

-- the reports of some runs, each numbered from 1, one after the other
abbrev pub reports : {K : Type 0} → (ℕ → K → List ℕ) → List (ScriptRun K) → List ℕ
reports text [] = []
reports text (run ∷ runs) = texts_from text 1 run.results ++ reports text runs

-- the tally after some runs, each numbered from 1
abbrev pub tally_after : {K : Type 0} → (K → ℕ) → Tally → List (ScriptRun K) → Tally
tally_after forgotten tally [] = tally
tally_after forgotten tally (run ∷ runs) =
    tally_after forgotten (tally_from forgotten 1 tally run.results) runs

-- the next script, after those that were run, may be refused as a whole
abbrev pub MayRefuseNext : {K : Type 0} → List (Option (List ℕ)) → List (ScriptRun K) → Refusal
    → Type 0
MayRefuseNext [] runs refusal = ⊥
MayRefuseNext (known ∷ readers) [] refusal =
    IfSome known (λ all. MayRefuseScript (read_of most_bytes all) refusal)
MayRefuseNext (known ∷ readers) (run ∷ runs) refusal = MayRefuseNext readers runs refusal

-- why scripts are not run to their end: memory is out, a file of theirs did not open or a read of
-- it failed, the report fails, or one is refused as a whole
abbrev pub IsScriptFault : Bool → RunFault → Type 0
IsScriptFault failed Memory = ⊤
IsScriptFault failed Read = failed ≡ true
IsScriptFault failed Write = ⊤
IsScriptFault failed (Script refusal) = ⊤
IsScriptFault failed _ = ⊥

-- the end of scripts, one of whose files has failed or not, and whose results a reporter receives,
-- before a fault or not
pub record Ends {W N K : Type 0} (contents : W → Option (List ℕ)) (errors : N → Option (List ℕ))
    (text : ℕ → K → List ℕ) (status : K → ℕ) (forgotten : K → ℕ)
    (readers : List (Option (List ℕ))) (failed : Bool) (old : Reporter W N)
    (runs : List (ScriptRun K)) (ended : Result Bool RunFault) (new : Reporter W N) : Type 0 where
  pub stops : new.stops ≡ old.stops
  -- the reporter is unused only if no statement was run
  pub unused : new.is_unused ≡ true → (old.is_unused ≡ true) × (results_of runs ≡ [])
  -- the greatest status of all statements
  pub worst : new.worst ≡ greatest_from status old.worst (results_of runs)
  pub low : old.worst ≤ 3 → new.worst ≤ 3
  -- the versions that all forget are counted, and the first are noted on standard error
  pub tally : new.notes.tally ≡ tally_after forgotten old.notes.tally runs
  pub told : TellsFirst errors old.notes new.notes
  -- the output got the reports, and nothing else, unless the report was at fault
  pub written : new.fault ≡ None → Appends (contents old.out) (contents new.out) (reports text runs)
  pub fault : IfErr ended (IsScriptFault failed)
  pub faulty : IfSome new.fault (λ fault. IsReportFault fault × (ended ≡ Err fault))
  -- the report is said to be unwritten only if its reporter says so, after a statement
  pub unwritten : ended ≡ Err Write → (new.fault ≡ Some Write) × (results_of runs ≢ [])
  -- all scripts were run, with --stop without a refusal; or they ended at the first
  pub whole : ended ≡ Ok true
      → (length runs ≡ length readers)
      × (old.stops ≡ true → All (λ result. status result ≡ 0) (results_of runs))
  pub stopped : ended ≡ Ok false → (old.stops ≡ true) × EndsAtRefusal status (results_of runs)
  -- with --stop no statement is run after one whose status is not 0, whatever the end
  pub stop : old.stops ≡ true → AllButLast (λ result. status result ≡ 0) (results_of runs)
  pub refused : (refusal : Refusal) → ended ≡ Err (Script refusal)
      → MayRefuseNext readers runs refusal
