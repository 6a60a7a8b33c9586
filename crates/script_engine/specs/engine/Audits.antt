-- Audits of answers: what the audit of a statement's answer says, in a history.
use Rattle.std.specs.Prelude.{◌≡◌, ℕ, List, Option, None, Some, Result, Ok, Err, Contains, ⊤}
use Rattle.period_core.specs.declared.answer.Answer.{Answer}
use Rattle.period_core.specs.declared.refusal.Refusal.{Refusal}
use Rattle.period_core.specs.declared.refusal.Refusal.TheVariants.{Memory}
use Rattle.period_core.specs.declared.row.PeriodRow.{PeriodRow}
use Rattle.sql_statements.specs.Trees.{Statement}
use Rattle.catalog_core.specs.declared.query.resolved.QueryReference.{QueryReference}
use Rattle.catalog_core.specs.query.Queries.{Query, references_of, rows_for}
use Rattle.statement_resolution.specs.query.Resolving.{ResolvesQuery}
use Rattle.history_model.specs.Histories.{History, catalog_of}
use Rattle.history_model.specs.OrdinaryQuery.{InAnswerOn, InAnswerOver}
use Rattle.snapshot_audit.specs.ChangeDays.{seen_lists}
use Rattle.snapshot_audit.specs.Verdicts.{IsVerdict}
use Rattle.snapshot_audit.specs.declared.verdict.Verdict.{Verdict}
use Rattle.snapshot_audit.specs.declared.verdict.Verdict.TheVariants.{Agrees, BadWitness, Differs}
use Rattle.sqlite.specs.Store.{Ghosts}
use Rattle.script_engine.specs.Headline.{IsSequencedAnswer}
use Rattle.script_engine.specs.engine.Answering.{AreSeenBy, SeesRows}
use Rattle.script_engine.specs.engine.EngineState.{EngineState}
use Rattle.script_engine.specs.engine.Runs.{Step}
use Rattle.script_engine.specs.engine.Stored.{RepresentsSome}
use Rattle.statement_reports.specs.declared.outcome.Outcome.{Outcome}
use Rattle.statement_reports.specs.declared.outcome.Outcome.TheVariants.{Done, Versions}
use Rattle.statement_reports.specs.declared.outcome.Outcome.TheVariants.{Answer as Answered}
use Rattle.statement_reports.specs.declared.entry.Entry.{Entry}

-- each reference of the query has a list that holds on each day what the reference sees
abbrev pub AreSeen : History → Query → List (List PeriodRow) → Type 0
AreSeen history query tables =
    (reference : QueryReference) → Contains (references_of query) reference
    → AreSeenBy history reference (rows_for tables reference)

-- each reference of the query has the list of the rows that it sees
abbrev pub HaveSeenRows : History → Query → List (List PeriodRow) → Type 0
HaveSeenRows history query tables =
    (reference : QueryReference) → Contains (references_of query) reference
    → SeesRows history reference (rows_for tables reference)

-- the verdict is an audit's of the answer over the lists
abbrev pub IsVerdictOver : Query → List (List PeriodRow) → Answer → Verdict → Type 0
IsVerdictOver query tables answer =
    IsVerdict (InAnswerOver query tables) (seen_lists query tables) answer.rows answer.witnesses

-- the verdict finds no fault
abbrev pub IsAgreement : Verdict → Type 0
IsAgreement (Agrees days) = ⊤
IsAgreement (Differs day) = ⊥
IsAgreement (BadWitness row) = ⊥

-- an audit over the rows that the query's references see gives the verdict; it finds no fault
pub record Confirms (history : History) (query : Query) (answer : Answer) (verdict : Verdict)
    : Type 0 where
  pub tables : List (List PeriodRow)
  pub seen : HaveSeenRows history query tables
  pub over : IsVerdictOver query tables answer verdict
  pub agrees : IsAgreement verdict

-- the audit of the answer to a query: a verdict that confirms it, or out of memory
abbrev pub IsAuditOf : History → Query → Answer → Result Verdict Refusal → Type 0
IsAuditOf history query answer (Ok verdict) = Confirms history query answer verdict
IsAuditOf history query answer (Err refusal) = refusal ≡ Memory

-- the audit of a statement's result: of an answer there is one, and of no other result
abbrev pub HasAudit
    : History → Statement → Result Outcome Refusal → Option (Result Verdict Refusal) → Type 0
HasAudit history s (Ok (Answered answer)) None = ⊥
HasAudit history s (Ok (Answered answer)) (Some audit) =
    (query : Query) × ResolvesQuery (catalog_of history) s query
    × IsAuditOf history query answer audit
HasAudit history s (Ok (Done word count)) audit = audit ≡ None
HasAudit history s (Ok (Versions list)) audit = audit ≡ None
HasAudit history s (Err refusal) audit = audit ≡ None

-- the entry's result is a step of the history, and its audit is by the history before it
pub record AuditedStep (history : History) (s : Statement) (entry : Entry) (new : History) : Type 0
  where
    pub step : Step history s entry.result new
    pub audit : HasAudit history s entry.result entry.audit

-- a statement with its audit leads to an engine that is what the new history says
abbrev pub AuditedStepsTo
    : {S : Type 0} → Ghosts S → History → Statement → Entry → EngineState S → Type 0
AuditedStepsTo g history s entry = RepresentsSome g (AuditedStep history s entry)

-- why audits agree, the contract of a function of this crate: a sequenced answer gets no other
-- verdict over what its query's references see
abbrev pub AuditsAgree : Type 0
AuditsAgree =
    (history : History) (query : Query) (answer : Answer) (verdict : Verdict)
    → IsSequencedAnswer (InAnswerOn history query) answer
    → (tables : List (List PeriodRow)) → AreSeen history query tables
    → IsVerdictOver query tables answer verdict → IsAgreement verdict

-- audits of an answer give one number of days, the number of the change days of the answer
-- and of the rows that the query's references see. This too is the contract of a function.
abbrev pub AuditsCountOnce : Type 0
AuditsCountOnce =
    (history : History) (query : Query) (answer : Answer) (days others : ℕ)
    → Confirms history query answer (Agrees days) → Confirms history query answer (Agrees others)
    → days ≡ others
