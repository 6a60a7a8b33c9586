-- Worked rows: the status of results.
use Rattle.std.specs.Prelude.{◌≡◌, ◌∷◌, [], Err, None, Ok, Option, Result, Some, pos, refl, true}
use Rattle.period_core.specs.declared.refusal.Refusal.{Refusal}
use Rattle.period_core.specs.declared.refusal.Refusal.TheVariants.{Memory as NoMemory, Syntax}
use Rattle.snapshot_audit.specs.declared.verdict.Verdict.{Verdict}
use Rattle.snapshot_audit.specs.declared.verdict.Verdict.TheVariants.{Agrees, BadWitness, Differs}
use Rattle.statement_reports.specs.declared.entry.Entry.{Entry}
use Rattle.statement_reports.specs.declared.outcome.Outcome.TheVariants.{Answer as Answered, Done}
use Rattle.statement_reports.specs.declared.outcome.Word.TheVariants.{Create}
use Rattle.command_line.specs.declared.command.Mode.TheVariants.{Run}
use Rattle.command_line.specs.declared.fault.RunFault.TheVariants.{Write}
use Rattle.command_tool.specs.Program.{MayEndSilently, audited_status, status_of}

-- ---- statuses

-- a refused statement counts, whatever its place
refused_after_done : status_of (Ok (Done Create 0) ∷ Err Syntax ∷ []) ≡ 1
refused_after_done = refl

-- ---- statuses of audited runs

abbrev answered : Option (Result Verdict Refusal) → Entry
answered audit =
    record { result = Ok (Answered record { columns = []; rows = []; witnesses = [] }); audit = audit }

abbrev refused : Entry
refused = record { result = Err Syntax; audit = None }

-- an audit that agrees changes nothing
agrees_beside_refused : audited_status (refused ∷ answered (Some (Ok (Agrees 1))) ∷ []) ≡ 1
agrees_beside_refused = refl

-- an audit that differs, finds a bad witness, or is refused precedes a refused statement
audit_differs : audited_status (refused ∷ answered (Some (Ok (Differs (pos 0)))) ∷ []) ≡ 3
audit_differs = refl

bad_witness : audited_status (answered (Some (Ok (BadWitness 1))) ∷ refused ∷ []) ≡ 3
bad_witness = refl

audit_refused : audited_status (answered (Some (Err NoMemory)) ∷ answered (Some (Ok (Agrees 1))) ∷ []) ≡ 3
audit_refused = refl

-- ---- a silent end

-- a writer that failed leaves no silent end
not_silent : MayEndSilently Run None true Write → ⊥
not_silent h = h
