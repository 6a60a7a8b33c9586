-- The report of a statement, and a reporter after it and after several.
use Rattle.std.specs.Prelude.{◌≡◌, ◌≢◌, ◌≤◌, ◌⊎◌, ◌+◌, ◌++◌, ◌∷◌, ℕ, Bool, List, [], Option, None}
use Rattle.std.specs.Prelude.{Result, Err, All, IfSome, IsSome, false, true, if◌then◌else◌}
use Rattle.std.specs.Prelude.{is_err, length, max}
use Rattle.std.specs.Io.KnownBytes.{Appends}
use Rattle.period_core.specs.Moments.{first_moment}
use Rattle.period_core.specs.declared.refusal.Refusal.{Refusal}
use Rattle.script_engine.specs.declared.script.noted.Noted.{Noted}
use Rattle.script_engine.specs.declared.script.timed.Timed.{Timed}
use Rattle.statement_reports.specs.declared.outcome.Outcome.{Outcome}
use Rattle.statement_reports.specs.declared.entry.Entry.{Entry}
use Rattle.command_line.specs.Audits.{fails_audit}
use Rattle.command_line.specs.declared.fault.RunFault.{RunFault}
use Rattle.command_line.specs.declared.fault.RunFault.TheVariants.{Memory, Write}
use Rattle.bitemporal_file.specs.Notes.{TellsFirst, counted, no_tally, tally_from}
use Rattle.bitemporal_file.specs.declared.reporter.Reporter.{Reporter}

-- 1 if the statement was refused, else 0
abbrev pub result_status : Result Outcome Refusal → ℕ
result_status result = if is_err result then 1 else 0

-- 3 if its audit did not agree or was refused; else 1 if it was refused, else 0
abbrev pub entry_status : Entry → ℕ
entry_status entry = if fails_audit entry.audit then 3 else result_status entry.result

-- the report of a statement with audits that is refused as it is read
abbrev pub refused_entry : Refusal → Entry
refused_entry refusal = record { result = Err refusal; audit = None }

-- the report at the system's time of a statement that is refused as it is read
abbrev pub timed_refusal : {K : Type 0} → (Refusal → K) → Refusal → Timed K
timed_refusal refused refusal = record { time = first_moment; kept = refused refusal }

-- the report of a statement that is refused as it is read: it forgets no version
abbrev pub noted_refusal : {K : Type 0} → (Refusal → K) → Refusal → Noted K
noted_refusal refused refusal = record { kept = refused refusal; forgotten = 0 }

-- a report of nothing yet
pub record IsUnused {W N : Type 0} (reporter : Reporter W N) : Type 0 where
  pub next : reporter.next ≡ 1
  pub worst : reporter.worst ≡ 0
  pub fault : reporter.fault ≡ None
  pub unused : reporter.is_unused ≡ true
  pub tally : reporter.notes.tally ≡ no_tally

-- the fault of a report
abbrev pub IsReportFault : RunFault → Type 0
IsReportFault fault = (fault ≡ Memory) ⊎ (fault ≡ Write)

-- the reporter of a run that may stop at a refusal receives a result, and says whether the run
-- continues
pub record ReceivesResult {W N K : Type 0} (contents : W → Option (List ℕ))
    (errors : N → Option (List ℕ)) (text : ℕ → K → List ℕ) (status : K → ℕ) (forgotten : K → ℕ)
    (old : Reporter W N) (kept : K) (goes_on : Bool) (new : Reporter W N) : Type 0 where
  pub stops : new.stops ≡ old.stops
  pub used : new.is_unused ≡ false
  -- the greatest status so far
  pub worst : new.worst ≡ max old.worst (status kept)
  pub low : old.worst ≤ 3 → new.worst ≤ 3
  -- the versions that it forgets are counted, and if they are the first they are noted
  pub tally : new.notes.tally ≡ counted old.notes.tally old.next (forgotten kept)
  pub told : TellsFirst errors old.notes new.notes
  -- if there is no fault, its records are written, numbered on, and nothing else
  pub written : new.fault ≡ None
      → Appends (contents old.out) (contents new.out) (text old.next kept)
      × (new.next ≡ old.next + 1)
  -- the run continues if there is no fault, and with --stop only if the statement has status 0
  pub on : goes_on ≡ true
      → (new.fault ≡ old.fault) × (old.stops ≡ true → status kept ≡ 0)
  pub off : goes_on ≡ false → old.fault ≡ None
      → IfSome new.fault IsReportFault
      × (IsSome new.fault ⊎ ((old.stops ≡ true) × (status kept ≢ 0)))

-- the texts of results, numbered from the first number on
abbrev pub texts_from : {K : Type 0} → (ℕ → K → List ℕ) → ℕ → List K → List ℕ
texts_from text n [] = []
texts_from text n (result ∷ results) = text n result ++ texts_from text (n + 1) results

-- the greatest of their statuses, from one on
abbrev pub greatest_from : {K : Type 0} → (K → ℕ) → ℕ → List K → ℕ
greatest_from status worst [] = worst
greatest_from status worst (result ∷ results) =
    greatest_from status (max worst (status result)) results

-- no result but the last has another status than 0
abbrev pub EndsAtRefusal : {K : Type 0} → (K → ℕ) → List K → Type 0
EndsAtRefusal status [] = ⊥
EndsAtRefusal status (result ∷ results) =
    ((status result ≢ 0) × (results ≡ []))
    ⊎ ((status result ≡ 0) × EndsAtRefusal status results)

-- all but the last
abbrev pub AllButLast : {X : Type 0} → (X → Type 0) → List X → Type 0
AllButLast Holds [] = Unit {0}
AllButLast Holds (x ∷ []) = Unit {0}
AllButLast Holds (x ∷ next ∷ rest) = Holds x × AllButLast Holds (next ∷ rest)

-- the reporter receives results, one after the other
pub record ReceivesResults {W N K : Type 0} (contents : W → Option (List ℕ))
    (errors : N → Option (List ℕ)) (text : ℕ → K → List ℕ) (status : K → ℕ) (forgotten : K → ℕ)
    (old : Reporter W N) (results : List K) (goes_on : Bool) (new : Reporter W N) : Type 0 where
  pub stops : new.stops ≡ old.stops
  -- a reporter is unused only if there are no results
  pub unused : new.is_unused ≡ true → (old.is_unused ≡ true) × (results ≡ [])
  pub worst : new.worst ≡ greatest_from status old.worst results
  pub low : old.worst ≤ 3 → new.worst ≤ 3
  pub tally : new.notes.tally ≡ tally_from forgotten old.next old.notes.tally results
  pub told : TellsFirst errors old.notes new.notes
  pub written : new.fault ≡ None
      → Appends (contents old.out) (contents new.out) (texts_from text old.next results)
      × (new.next ≡ old.next + length results)
  pub on : goes_on ≡ true
      → (new.fault ≡ None) × (old.stops ≡ true → All (λ result. status result ≡ 0) results)
  pub off : goes_on ≡ false
      → IfSome new.fault IsReportFault
      × (IsSome new.fault ⊎ ((old.stops ≡ true) × EndsAtRefusal status results))
  -- with --stop no result but the last has another status than 0
  pub stop : old.stops ≡ true → AllButLast (λ result. status result ≡ 0) results
