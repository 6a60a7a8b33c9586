use Rattle.std.proofs.Common.{◌≡◌, ◌∙◌, List, ap, inl, refl, subst, sym}
use Rattle.std.specs.Prelude.{IfErr}
use Rattle.period_core.specs.Leasts.{MayAnswer, NoneApplies}
use Rattle.sql_statements.specs.Plain.{plain_query}
use Rattle.sql_statements.specs.Trees.{Statement}
use Rattle.sql_statements.specs.Trees as statement
use Rattle.catalog_core.specs.RefusalConditions.{Holds}
use Rattle.catalog_core.specs.query.Queries as resolved
use Rattle.statement_resolution.specs.query.Resolving.{ResolvesQuery, query_conditions}
use Rattle.catalog_core.specs.declared.table.TableDef.{TableDef}
use Rattle.catalog_core.specs.declared.table.catalog.Catalog.{Catalog}
use Rattle.version_store.specs.StoreState.{SparesOthers}
use Rattle.version_store.proofs.Beside.{spares_same}
use Rattle.history_model.specs.Histories.{catalog_of}
use Rattle.script_engine.specs.engine.Audits.{AuditedStepsTo}
use Rattle.script_engine.specs.engine.EngineState.{EngineState, engine_with}
use Rattle.script_engine.specs.engine.Over.{StepOver}
use Rattle.script_engine.specs.engine.Runs.{MayRefuseQuery}
use Rattle.statement_reports.specs.declared.entry.Entry.{Entry}
use Rattle.statement_reports.specs.declared.outcome.Outcome.TheVariants.{Answer as Answered}
use Rattle.script_engine.proofs.Answered.{answered_step, failed_answer, unanswered_step}
use Rattle.script_engine.proofs.Audited.{answer_entry, refused_entry}
use Rattle.script_engine.proofs.Handed.{handed_query, handed_rows, has_the_same}
use Rattle.script_engine.proofs.Refused.{failed_query}
use Rattle.script_engine.proofs.OverFacts.{asked_over, untouched_over}
use Rattle.script_engine.proofs.SameInMemory.{failed_over}
use Rattle.script_engine.proofs.Steps.{tables_of}
use Rattle.sqlite.specs.Held.{state}
use Rattle.version_tables.specs.Healthy.{IsHealthy}
use Rattle.script_engine.proofs.engine.Engine.answer_audited.Goals as goal

pub returns-in-Ok-answer_query-clause-step : goal.returns-in-Ok-answer_query-clause-step
returns-in-Ok-answer_query-clause-step g c = λ usable history kept.
    let asked = plain_query c.args.query.now in
    let s : Statement = statement.sequenced asked in
    let query = resolved.plain_query c.in-Ok.query in
    let answer = c.in-Ok-answer_query.answer in
    let old : EngineState g.row.S.Denot = c.args.self.now in
    let catalog : c.catalog.result.now ≡ old.catalog = c.catalog.ensures ∙ ap (λ (e : EngineState g.row.S.Denot). e.catalog) c.self.view_is in
    let new : EngineState g.row.S.Denot = engine_with c.self.inside.store c.answer_query.new.tables in
    let same : new ≡ old = ap (engine_with c.self.inside.store) c.answer_query.ensures.same ∙ c.self.view_is in
    let rows = handed_rows g.S.Store history old kept c.self.inside.store c.self.inside.tables c.self.view_is in
    let found : ResolvesQuery old.catalog.tables s query = subst (λ (k : Catalog). ResolvesQuery k.tables s query) catalog c.in-Ok.ensures.resolved in
    let its : ResolvesQuery (catalog_of history) s query = subst (λ (defs : List TableDef). ResolvesQuery defs s query) (tables_of g.S.Store history old kept) found in
    let known = handed_query g.S.Store history old kept asked query found in
    let right = c.in-Ok-answer_query.ensures.right history rows known in
    let audited = handed_rows g.S.Store history old kept c.self.inside.store c.answer_query.new.tables same in
    answer_entry g.S.Store history s new query answer c.audit_of-audit.result its
    (c.audit_of-audit.ensures.confirms history audited known right)
    (answered_step g.S.Store history old asked kept new query answer
    (subst (λ (k : Catalog). NoneApplies (Holds (query_conditions k.tables s))) catalog c.in-Ok.ensures.sound)
    found (has_the_same g.S.Store history old kept new same) c.in-Ok-answer_query.ensures.columns right)

pub returns-clause-step : goal.returns-clause-step
returns-clause-step g c = λ usable history kept.
    let asked = plain_query c.args.query.now in
    let s : Statement = statement.sequenced asked in
    let old : EngineState g.row.S.Denot = c.args.self.now in
    let catalog : c.catalog.result.now ≡ old.catalog = c.catalog.ensures ∙ ap (λ (e : EngineState g.row.S.Denot). e.catalog) c.self.view_is in
    let new : EngineState g.row.S.Denot = engine_with c.self.inside.store c.answer_query.new.tables in
    let same : new ≡ old = ap (engine_with c.self.inside.store) c.answer_query.ensures.same ∙ c.self.view_is in
    subst (λ (entry : Entry). AuditedStepsTo g.S.Store history s entry new) (sym c.unaudited-in-Err-answer_query.ensures)
    (refused_entry g.S.Store history s new c.in-Err-answer_query.refusal
    (failed_answer g.S.Store history old asked kept new c.in-Err-answer_query.refusal
    (subst (λ (k : Catalog). NoneApplies (Holds (query_conditions k.tables s))) catalog c.in-Ok.ensures.sound)
    (has_the_same g.S.Store history old kept new same) c.in-Err-answer_query.ensures.named))

pub returns-in-Err-clause-queries : goal.returns-in-Err-clause-queries
returns-in-Err-clause-queries g c = λ usable history kept.
    let s : Statement = statement.sequenced (plain_query c.args.query.now) in
    let same : c.catalog.result.now.tables ≡ c.args.self.now.catalog.tables = ap (λ (k : Catalog). k.tables) c.catalog.ensures ∙ ap (λ s. s.catalog.tables) c.self.view_is in
    subst (λ (entry : Entry). IfErr entry.result (MayRefuseQuery g.S.Store c.args.self.now c.args.self.now s)) (sym c.unaudited.ensures)
    (inl (subst (λ (tables : List TableDef). MayAnswer (Holds (query_conditions tables s)) c.in-Err.refusal) same c.in-Err.ensures.refused))

pub returns-clause-queries : goal.returns-clause-queries
returns-clause-queries g c = λ usable history kept.
    let asked = plain_query c.args.query.now in
    let s : Statement = statement.sequenced asked in
    let query = resolved.plain_query c.in-Ok.query in
    let old : EngineState g.row.S.Denot = c.args.self.now in
    let new : EngineState g.row.S.Denot = engine_with c.self.inside.store c.answer_query.new.tables in
    let rows = handed_rows g.S.Store history old kept c.self.inside.store c.self.inside.tables c.self.view_is in
    let catalog : c.catalog.result.now ≡ old.catalog = c.catalog.ensures ∙ ap (λ (e : EngineState g.row.S.Denot). e.catalog) c.self.view_is in
    let known = handed_query g.S.Store history old kept asked query (subst (λ (k : Catalog). ResolvesQuery k.tables s query) catalog c.in-Ok.ensures.resolved) in
    subst (λ (entry : Entry). IfErr entry.result (MayRefuseQuery g.S.Store old new s)) (sym c.unaudited-in-Err-answer_query.ensures)
    (failed_query g.S.Store old new s c.in-Err-answer_query.refusal (inl (c.in-Err-answer_query.ensures.why history rows known)))

pub returns-in-Ok-answer_query-clause-over : goal.returns-in-Ok-answer_query-clause-over
returns-in-Ok-answer_query-clause-over g c =
    let s : Statement = statement.sequenced (plain_query c.args.query.now) in
    let old : EngineState g.row.S.Denot = c.args.self.now in
    let catalog : c.catalog.result.now ≡ old.catalog = c.catalog.ensures ∙ ap (λ (e : EngineState g.row.S.Denot). e.catalog) c.self.view_is in
    let new : EngineState g.row.S.Denot = engine_with c.self.inside.store c.answer_query.new.tables in
    let same : new ≡ old = ap (engine_with c.self.inside.store) c.answer_query.ensures.same ∙ c.self.view_is in
    asked_over g.S.Store old s new (Answered c.in-Ok-answer_query.answer) same
    (subst (λ (k : Catalog). NoneApplies (Holds (query_conditions k.tables s))) catalog c.in-Ok.ensures.sound) (refl, refl)

pub returns-in-Err-clause-over : goal.returns-in-Err-clause-over
returns-in-Err-clause-over g c =
    let s : Statement = statement.sequenced (plain_query c.args.query.now) in
    let old : EngineState g.row.S.Denot = c.args.self.now in
    let same : c.catalog.result.now.tables ≡ old.catalog.tables = ap (λ (k : Catalog). k.tables) c.catalog.ensures ∙ ap (λ s. s.catalog.tables) c.self.view_is in
    subst (λ (entry : Entry). StepOver g.S.Store old s entry.result old) (sym c.unaudited.ensures)
    (untouched_over g.S.Store old s old c.in-Err.refusal refl
    (inl (inl (subst (λ (tables : List TableDef). MayAnswer (Holds (query_conditions tables s)) c.in-Err.refusal) same c.in-Err.ensures.refused))))

pub returns-clause-over : goal.returns-clause-over
returns-clause-over g c =
    let s : Statement = statement.sequenced (plain_query c.args.query.now) in
    let old : EngineState g.row.S.Denot = c.args.self.now in
    let catalog : c.catalog.result.now ≡ old.catalog = c.catalog.ensures ∙ ap (λ (e : EngineState g.row.S.Denot). e.catalog) c.self.view_is in
    let new : EngineState g.row.S.Denot = engine_with c.self.inside.store c.answer_query.new.tables in
    let same : new ≡ old = ap (engine_with c.self.inside.store) c.answer_query.ensures.same ∙ c.self.view_is in
    subst (λ (entry : Entry). StepOver g.S.Store old s entry.result new) (sym c.unaudited-in-Err-answer_query.ensures)
    (untouched_over g.S.Store old s new c.in-Err-answer_query.refusal same
    (failed_over old.catalog.tables old.clock s c.in-Err-answer_query.refusal
    (subst (λ (k : Catalog). NoneApplies (Holds (query_conditions k.tables s))) catalog c.in-Ok.ensures.sound)
    c.in-Err-answer_query.ensures.named))

pub returns-in-Err-clause-step : goal.returns-in-Err-clause-step
returns-in-Err-clause-step g c = λ usable history kept.
    let asked = plain_query c.args.query.now in
    let s : Statement = statement.sequenced asked in
    let old : EngineState g.row.S.Denot = c.args.self.now in
    let same : c.catalog.result.now.tables ≡ old.catalog.tables = ap (λ (k : Catalog). k.tables) c.catalog.ensures ∙ ap (λ s. s.catalog.tables) c.self.view_is in
    subst (λ (entry : Entry). AuditedStepsTo g.S.Store history s entry old) (sym c.unaudited.ensures)
    (refused_entry g.S.Store history s old c.in-Err.refusal
    (unanswered_step g.S.Store history old asked kept c.in-Err.refusal
    (subst (λ (tables : List TableDef). MayAnswer (Holds (query_conditions tables s)) c.in-Err.refusal) same c.in-Err.ensures.refused)))

pub returns-in-Err-clause-others : goal.returns-in-Err-clause-others
returns-in-Err-clause-others g c = spares_same g.S.Store c.args.self.now.connection c.args.self.now.connection (λ usable. refl)

pub returns-in-Ok-answer_query-clause-others : goal.returns-in-Ok-answer_query-clause-others
returns-in-Ok-answer_query-clause-others g c =
    subst (λ s. SparesOthers g.S.Store s.connection c.self.inside.store.connection) c.self.view_is
    (spares_same g.S.Store c.self.inside.store.connection c.self.inside.store.connection (λ usable. refl))

pub returns-clause-others : goal.returns-clause-others
returns-clause-others g c =
    subst (λ s. SparesOthers g.S.Store s.connection c.self.inside.store.connection) c.self.view_is
    (spares_same g.S.Store c.self.inside.store.connection c.self.inside.store.connection (λ usable. refl))

pub returns-in-Ok-answer_query-clause-healthy : goal.returns-in-Ok-answer_query-clause-healthy
returns-in-Ok-answer_query-clause-healthy g c = λ usable history kept left room. subst (λ (e : EngineState g.row.S.Denot). IsHealthy left (state g.S.Store e.connection).now) (sym c.self.view_is) room.healthy
