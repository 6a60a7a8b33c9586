use Rattle.std.proofs.Common.{◌≡◌, ◌∙◌, ap, subst, sym}
use Rattle.sql_statements.specs.Plain.{plain, plain_form, plain_query}
use Rattle.sql_statements.specs.Trees.{Statement}
use Rattle.sql_statements.specs.Trees as statement
use Rattle.statement_resolution.specs.query.Resolving.{IsSequenced}
use Rattle.script_engine.specs.engine.Audits.{AuditedStepsTo}
use Rattle.statement_reports.specs.declared.entry.Entry.{Entry}
use Rattle.script_engine.proofs.Audited.{not_sequenced, other_entry}
use Rattle.std.specs.Prelude.{IfErr}
use Rattle.script_engine.specs.engine.Over.{RunsOver}
use Rattle.script_engine.specs.engine.Runs.{MayRefuseQuery}
use Rattle.std.proofs.lemmas.Result.{IfErr-weaker}
use Rattle.script_engine.proofs.OnFault.{asked_by_fault}
use Rattle.script_engine.proofs.engine.Engine.execute_audited.Goals as goal

pub returns-in-Sequenced-clause-step : goal.returns-in-Sequenced-clause-step
returns-in-Sequenced-clause-step g c = λ usable history kept.
    let said : statement.sequenced (plain_query c.in-Sequenced.query) ≡ plain c.args.statement.now = ap plain_form (sym c.in-Sequenced.is) ∙ c.form.ensures in
    subst (λ (s : Statement). AuditedStepsTo g.S.Store history s c.answer_audited.result c.answer_audited.new.self) said (c.answer_audited.ensures.step usable history kept)

pub returns-in_default-clause-step : goal.returns-in_default-clause-step
returns-in_default-clause-step g c = λ usable history kept.
    let s : Statement = plain c.args.statement.now in
    let other : IsSequenced s → ⊥ = subst (λ (t : Statement). IsSequenced t → ⊥) c.form.ensures (not_sequenced c.form.result.now c.in_default.not-Sequenced) in
    subst (λ (entry : Entry). AuditedStepsTo g.S.Store history s entry c.execute.new.self) (sym c.unaudited.ensures)
    (other_entry g.S.Store history s c.execute.new.self c.execute.result other (c.execute.ensures.runs.step usable history kept))

pub returns-in-Sequenced-clause-queries : goal.returns-in-Sequenced-clause-queries
returns-in-Sequenced-clause-queries g c = λ usable history kept asks.
    let said : statement.sequenced (plain_query c.in-Sequenced.query) ≡ plain c.args.statement.now = ap plain_form (sym c.in-Sequenced.is) ∙ c.form.ensures in
    subst (λ (s : Statement). IfErr c.answer_audited.result.result (MayRefuseQuery g.S.Store c.args.self.now c.answer_audited.new.self s)) said (c.answer_audited.ensures.queries usable history kept)

pub returns-in_default-clause-queries : goal.returns-in_default-clause-queries
returns-in_default-clause-queries g c = λ usable history kept asks.
    subst (λ (entry : Entry). IfErr entry.result (MayRefuseQuery g.S.Store c.args.self.now c.execute.new.self (plain c.args.statement.now))) (sym c.unaudited.ensures) (c.execute.ensures.queries usable history kept asks)

pub returns-in-Sequenced-clause-runs : goal.returns-in-Sequenced-clause-runs
returns-in-Sequenced-clause-runs g c =
    let said : statement.sequenced (plain_query c.in-Sequenced.query) ≡ plain c.args.statement.now = ap plain_form (sym c.in-Sequenced.is) ∙ c.form.ensures in
    subst (λ (s : Statement). RunsOver g.S.Store c.args.self.now s c.answer_audited.result.result c.answer_audited.new.self) said (record {
      step = λ usable history kept. let (new, is, represents) = c.answer_audited.ensures.step usable history kept in (new, is.step, represents);
      over = c.answer_audited.ensures.over;
      why = λ usable history kept room. IfErr-weaker c.answer_audited.result.result _ _ (λ refusal may told. asked_by_fault g.S.Store c.args.self.now c.answer_audited.new.self (statement.sequenced (plain_query c.in-Sequenced.query)) refusal tt may told) (c.answer_audited.ensures.queries usable history kept);
      healthy = c.answer_audited.ensures.healthy;
    })

pub returns-in_default-clause-runs : goal.returns-in_default-clause-runs
returns-in_default-clause-runs g c =
    subst (λ (entry : Entry). RunsOver g.S.Store c.args.self.now (plain c.args.statement.now) entry.result c.execute.new.self) (sym c.unaudited.ensures) c.execute.ensures.runs
