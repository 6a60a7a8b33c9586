use Rattle.std.proofs.Common.{◌≡◌, ◌∙◌, List, ap, inl, refl, subst, sym}
use Rattle.std.proofs.lemmas.Result.{err_from_is_err_and}
use Rattle.period_core.specs.Leasts.{MayAnswer, NoneApplies}
use Rattle.sql_statements.specs.Plain.{plain_query}
use Rattle.sql_statements.specs.Trees.{Statement}
use Rattle.sql_statements.specs.Trees as statement
use Rattle.catalog_core.specs.RefusalConditions.{Holds}
use Rattle.catalog_core.specs.query.Queries as resolved
use Rattle.statement_resolution.specs.query.Resolving.{ResolvesQuery, query_conditions}
use Rattle.catalog_core.specs.declared.table.TableDef.{TableDef}
use Rattle.catalog_core.specs.declared.table.catalog.Catalog.{Catalog}
use Rattle.script_engine.specs.engine.EngineState.{EngineState, engine_with}
use Rattle.statement_reports.specs.declared.outcome.Outcome.TheVariants.{Answer as Answered}
use Rattle.script_engine.proofs.Answered.{answered_step, failed_answer}
use Rattle.script_engine.proofs.Handed.{handed_query, handed_rows, has_the_same}
use Rattle.script_engine.proofs.Refused.{failed_query}
use Rattle.script_engine.proofs.OverFacts.{asked_over, untouched_over}
use Rattle.script_engine.proofs.SameInMemory.{failed_over}
use Rattle.sqlite.specs.Held.{state}
use Rattle.version_tables.specs.Healthy.{IsHealthy}
use Rattle.script_engine.proofs.engine.Engine.answer.Goals as goal

pub returns-clause-step : goal.returns-clause-step
returns-clause-step g c = λ usable history kept.
    let asked = plain_query c.args.query.now in
    let s : Statement = statement.sequenced asked in
    let query = resolved.plain_query c.in_ok-query.query in
    let old : EngineState g.row.S.Denot = c.args.self.now in
    let catalog : c.catalog.result.now ≡ old.catalog = c.catalog.ensures ∙ ap (λ (e : EngineState g.row.S.Denot). e.catalog) c.self.view_is in
    let new : EngineState g.row.S.Denot = engine_with c.self.inside.store c.answer_query.new.tables in
    let same : new ≡ old = ap (engine_with c.self.inside.store) c.answer_query.ensures.same ∙ c.self.view_is in
    let rows = handed_rows g.S.Store history old kept c.self.inside.store c.self.inside.tables c.self.view_is in
    let found : ResolvesQuery old.catalog.tables s query = subst (λ (k : Catalog). ResolvesQuery k.tables s query) catalog c.in_ok-query.ensures.resolved in
    let known = handed_query g.S.Store history old kept asked query found in
    answered_step g.S.Store history old asked kept new query c.in_ok-answer.answer
    (subst (λ (k : Catalog). NoneApplies (Holds (query_conditions k.tables s))) catalog c.in_ok-query.ensures.sound)
    found (has_the_same g.S.Store history old kept new same) c.in_ok-answer.ensures.columns (c.in_ok-answer.ensures.right history rows known)

pub returns-in_err-answer-clause-step : goal.returns-in_err-answer-clause-step
returns-in_err-answer-clause-step g c = λ usable history kept.
    let p = err_from_is_err_and c.from_residual-in_err-answer.result c.from_residual-in_err-answer.ensures.1 in
    rw (p.1, p.2) (let asked = plain_query c.args.query.now in
    let s : Statement = statement.sequenced asked in
    let old : EngineState g.row.S.Denot = c.args.self.now in
    let catalog : c.catalog.result.now ≡ old.catalog = c.catalog.ensures ∙ ap (λ (e : EngineState g.row.S.Denot). e.catalog) c.self.view_is in
    let new : EngineState g.row.S.Denot = engine_with c.self.inside.store c.answer_query.new.tables in
    let same : new ≡ old = ap (engine_with c.self.inside.store) c.answer_query.ensures.same ∙ c.self.view_is in
    failed_answer g.S.Store history old asked kept new c.in_err-answer.field-0.0
    (subst (λ (k : Catalog). NoneApplies (Holds (query_conditions k.tables s))) catalog c.in_ok-query.ensures.sound)
    (has_the_same g.S.Store history old kept new same) c.in_err-answer.ensures.named)

pub returns-in_err-query-clause-queries : goal.returns-in_err-query-clause-queries
returns-in_err-query-clause-queries g c = λ usable history kept.
    let p = err_from_is_err_and c.from_residual.result c.from_residual.ensures.1 in
    rw (p.1, p.2) (let s : Statement = statement.sequenced (plain_query c.args.query.now) in
    let same : c.catalog.result.now.tables ≡ c.args.self.now.catalog.tables = ap (λ (k : Catalog). k.tables) c.catalog.ensures ∙ ap (λ s. s.catalog.tables) c.self.view_is in
    inl (subst (λ (tables : List TableDef). MayAnswer (Holds (query_conditions tables s)) c.in_err-query.field-0.0) same c.in_err-query.ensures.refused))

pub returns-in_err-answer-clause-queries : goal.returns-in_err-answer-clause-queries
returns-in_err-answer-clause-queries g c = λ usable history kept.
    let p = err_from_is_err_and c.from_residual-in_err-answer.result c.from_residual-in_err-answer.ensures.1 in
    rw (p.1, p.2) (let asked = plain_query c.args.query.now in
    let s : Statement = statement.sequenced asked in
    let query = resolved.plain_query c.in_ok-query.query in
    let old : EngineState g.row.S.Denot = c.args.self.now in
    let new : EngineState g.row.S.Denot = engine_with c.self.inside.store c.answer_query.new.tables in
    let rows = handed_rows g.S.Store history old kept c.self.inside.store c.self.inside.tables c.self.view_is in
    let catalog : c.catalog.result.now ≡ old.catalog = c.catalog.ensures ∙ ap (λ (e : EngineState g.row.S.Denot). e.catalog) c.self.view_is in
    let known = handed_query g.S.Store history old kept asked query (subst (λ (k : Catalog). ResolvesQuery k.tables s query) catalog c.in_ok-query.ensures.resolved) in
    failed_query g.S.Store old new s c.in_err-answer.field-0.0 (inl (c.in_err-answer.ensures.why history rows known)))

pub returns-clause-over : goal.returns-clause-over
returns-clause-over g c =
    let s : Statement = statement.sequenced (plain_query c.args.query.now) in
    let old : EngineState g.row.S.Denot = c.args.self.now in
    let catalog : c.catalog.result.now ≡ old.catalog = c.catalog.ensures ∙ ap (λ (e : EngineState g.row.S.Denot). e.catalog) c.self.view_is in
    let new : EngineState g.row.S.Denot = engine_with c.self.inside.store c.answer_query.new.tables in
    let same : new ≡ old = ap (engine_with c.self.inside.store) c.answer_query.ensures.same ∙ c.self.view_is in
    asked_over g.S.Store old s new (Answered c.in_ok-answer.answer) same
    (subst (λ (k : Catalog). NoneApplies (Holds (query_conditions k.tables s))) catalog c.in_ok-query.ensures.sound) (refl, refl)

pub returns-in_err-query-clause-over : goal.returns-in_err-query-clause-over
returns-in_err-query-clause-over g c =
    let p = err_from_is_err_and c.from_residual.result c.from_residual.ensures.1 in
    rw (p.1, p.2) (let s : Statement = statement.sequenced (plain_query c.args.query.now) in
    let same : c.catalog.result.now.tables ≡ c.args.self.now.catalog.tables = ap (λ (k : Catalog). k.tables) c.catalog.ensures ∙ ap (λ s. s.catalog.tables) c.self.view_is in
    untouched_over g.S.Store c.args.self.now s c.args.self.now c.in_err-query.field-0.0 refl
    (inl (inl (subst (λ (tables : List TableDef). MayAnswer (Holds (query_conditions tables s)) c.in_err-query.field-0.0) same c.in_err-query.ensures.refused))))

pub returns-in_err-answer-clause-over : goal.returns-in_err-answer-clause-over
returns-in_err-answer-clause-over g c =
    let p = err_from_is_err_and c.from_residual-in_err-answer.result c.from_residual-in_err-answer.ensures.1 in
    rw (p.1, p.2) (let s : Statement = statement.sequenced (plain_query c.args.query.now) in
    let old : EngineState g.row.S.Denot = c.args.self.now in
    let catalog : c.catalog.result.now ≡ old.catalog = c.catalog.ensures ∙ ap (λ (e : EngineState g.row.S.Denot). e.catalog) c.self.view_is in
    let new : EngineState g.row.S.Denot = engine_with c.self.inside.store c.answer_query.new.tables in
    let same : new ≡ old = ap (engine_with c.self.inside.store) c.answer_query.ensures.same ∙ c.self.view_is in
    untouched_over g.S.Store old s new c.in_err-answer.field-0.0 same
    (failed_over old.catalog.tables old.clock s c.in_err-answer.field-0.0
    (subst (λ (k : Catalog). NoneApplies (Holds (query_conditions k.tables s))) catalog c.in_ok-query.ensures.sound)
    c.in_err-answer.ensures.named))

pub returns-clause-healthy : goal.returns-clause-healthy
returns-clause-healthy g c = λ usable history kept left room. subst (λ (e : EngineState g.row.S.Denot). IsHealthy left (state g.S.Store e.connection).now) (sym c.self.view_is) room.healthy
