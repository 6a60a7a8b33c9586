-- The entries of statements: an answer with its audit, and what is no answer without one.
use Rattle.std.proofs.Common.{◌≡◌, List, None, Some, Result, Ok, Err, refl}
use Rattle.std.specs.Prelude.{IfErr, IfOk}
use Rattle.period_core.specs.declared.answer.Answer.{Answer}
use Rattle.period_core.specs.declared.refusal.Refusal.{Refusal}
use Rattle.period_core.specs.declared.refusal.Refusal.TheVariants.{Memory}
use Rattle.period_core.specs.declared.row.PeriodRow.{PeriodRow}
use Rattle.sql_statements.specs.Plain.{plain_form}
use Rattle.sql_statements.specs.Trees.{Statement}
use Rattle.sql_statements.specs.Trees as statement
use Rattle.sql_statements.specs.declared.statement.SelectDistinct as selects
use Rattle.sql_statements.specs.declared.statement.StatementForm as forms
use Rattle.sql_statements.specs.declared.statement.StatementForm.TheVariants as variant
use Rattle.sql_statements.specs.declared.tree.QueryTree as queries
use Rattle.catalog_core.specs.query.Queries.{Query}
use Rattle.statement_resolution.specs.query.Resolving.{IsSequenced, ResolvesQuery}
use Rattle.history_model.specs.Histories.{History, catalog_of}
use Rattle.history_model.specs.OrdinaryQuery.{InAnswerOn}
use Rattle.snapshot_audit.specs.declared.verdict.Verdict.{Verdict}
use Rattle.sqlite.specs.Store.{Ghosts}
use Rattle.script_engine.specs.Headline.{IsSequencedAnswer}
use Rattle.script_engine.specs.engine.Audits.{AuditedStepsTo, HasAudit, HaveSeenRows, IsAuditOf, IsVerdictOver}
use Rattle.script_engine.specs.engine.EngineState.{EngineState}
use Rattle.script_engine.specs.engine.Runs.{Step, StepsTo}
use Rattle.statement_reports.specs.declared.outcome.Outcome.{Outcome}
use Rattle.statement_reports.specs.declared.outcome.Outcome.TheVariants.{Done, Versions}
use Rattle.statement_reports.specs.declared.outcome.Outcome.TheVariants.{Answer as Answered}
use Rattle.script_engine.proofs.AuditLaws.{audits_agree}

-- an audit of a sequenced answer, over what the query's references see, agrees or is out of memory
pub audit_is : (history : History) (query : Query) (answer : Answer) (tables : List (List PeriodRow)) (audit : Result Verdict Refusal) → IsSequencedAnswer (InAnswerOn history query) answer → HaveSeenRows history query tables →
    IfOk audit (IsVerdictOver query tables answer) → IfErr audit (λ refusal. refusal ≡ Memory) → IsAuditOf history query answer audit
audit_is history query answer tables (Ok verdict) right seen over memory = record {
  tables = tables;
  seen = seen;
  over = over;
  agrees = audits_agree history query answer verdict right tables (λ reference among. (seen reference among).daily) over;
}
audit_is history query answer tables (Err refusal) right seen over memory = memory

-- a result of a statement that is no sequenced query is no answer
no_answer : (history : History) (s : Statement) (result : Result Outcome Refusal) (new : History) → (IsSequenced s → ⊥) → Step history s result new → HasAudit history s result None
no_answer history s (Err refusal) new other step = refl
no_answer history s (Ok (Done word count)) new other step = refl
no_answer history s (Ok (Versions list)) new other step = refl
no_answer history (statement.at moment) (Ok (Answered answer)) new other step = absurd (let wrong = step.1.done in cc)
no_answer history (statement.create create) (Ok (Answered answer)) new other step = absurd (let wrong = step.1.done in cc)
no_answer history (statement.insert insert) (Ok (Answered answer)) new other step = absurd (let wrong = step.1.done in cc)
no_answer history (statement.update update) (Ok (Answered answer)) new other step = absurd (let wrong = step.1.done in cc)
no_answer history (statement.delete delete) (Ok (Answered answer)) new other step = absurd (let wrong = step.1.done in cc)
no_answer history (statement.sequenced query) (Ok (Answered answer)) new other step = absurd (other tt)
no_answer history (statement.stored query) (Ok (Answered answer)) new other step = absurd (let wrong = step.1.1 in cc)

-- a statement of another form is no sequenced query
pub not_sequenced : (form : forms.StatementForm) → ((query : queries.QueryTree selects.SelectDistinct) → form ≡ variant.Sequenced query → ⊥) → IsSequenced (plain_form form) → ⊥
not_sequenced (variant.At moment) none is = is
not_sequenced (variant.Create table) none is = is
not_sequenced (variant.Insert rows) none is = is
not_sequenced (variant.Update rows) none is = is
not_sequenced (variant.Delete rows) none is = is
not_sequenced (variant.Sequenced query) none is = none query refl
not_sequenced (variant.Stored query) none is = is

module _ {S : Type 0} (g : Ghosts S) (history : History) (s : Statement) (engine : EngineState S) where
  pub refused_entry : (refusal : Refusal) → StepsTo g history s (Err refusal) engine → AuditedStepsTo g history s (record { result = Err refusal; audit = None }) engine
  refused_entry refusal (new, step, kept) = (new, record { step = step; audit = refl }, kept)

  pub other_entry : (result : Result Outcome Refusal) → (IsSequenced s → ⊥) → StepsTo g history s result engine → AuditedStepsTo g history s (record { result = result; audit = None }) engine
  other_entry result other (new, step, kept) = (new, record { step = step; audit = no_answer history s result new other step }, kept)

  pub answer_entry : (query : Query) (answer : Answer) (audit : Result Verdict Refusal) → ResolvesQuery (catalog_of history) s query → IsAuditOf history query answer audit → StepsTo g history s (Ok (Answered answer)) engine →
      AuditedStepsTo g history s (record { result = Ok (Answered answer); audit = Some audit }) engine
  answer_entry query answer audit resolved is (new, step, kept) = (new, record { step = step; audit = (query, resolved, is) }, kept)
