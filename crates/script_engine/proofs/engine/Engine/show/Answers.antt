use Rattle.std.proofs.Common.{◌≡◌, ◌∙◌, List, Some, ap, inl, map, refl, subst, sym}
use Rattle.std.proofs.lemmas.Result.{err_from_is_err_and}
use Rattle.period_core.specs.Leasts.{MayAnswer, NoneApplies}
use Rattle.period_core.specs.declared.refusal.Refusal.TheVariants.{Memory}
use Rattle.sql_statements.specs.Plain.{plain_stored}
use Rattle.sql_statements.specs.Trees as statement
use Rattle.catalog_core.specs.RefusalConditions.{Holds}
use Rattle.statement_resolution.specs.stored.StoredQueries.{ResolvesStoredQuery, stored_query_conditions}
use Rattle.catalog_core.specs.table.TableWords.{table_of}
use Rattle.catalog_core.specs.declared.table.TableDef.{TableDef}
use Rattle.catalog_core.specs.declared.table.catalog.Catalog.{Catalog}
use Rattle.period_keys.specs.Current.{rows_by_key}
use Rattle.script_engine.specs.engine.VersionLists.{AreShownIn}
use Rattle.script_engine.specs.engine.Ended.{HaveEnded}
use Rattle.script_engine.specs.engine.EngineState.{EngineState, engine_with}
use Rattle.script_engine.specs.engine.InMemory.{HaveCurrentRows}
use Rattle.script_engine.proofs.Shown.{failed_show, shown_step}
use Rattle.script_engine.proofs.Handed.{has_the_same}
use Rattle.script_engine.proofs.Refused.{failed_query}
use Rattle.script_engine.proofs.OverFacts.{asked_over, untouched_over}
use Rattle.script_engine.proofs.SameInMemory.{failed_over}
use Rattle.sqlite.specs.Held.{state}
use Rattle.version_tables.specs.Healthy.{IsHealthy}
use Rattle.script_engine.proofs.engine.Engine.show.Goals as goal

pub returns-clause-step : goal.returns-clause-step
returns-clause-step g c = λ usable history kept.
    let old : EngineState g.row.S.Denot = c.args.self.now in
    let new : EngineState g.row.S.Denot = engine_with c.self.inside.store c.shown_by.new.tables in
    let same : new ≡ old = ap (engine_with c.self.inside.store) c.shown_by.ensures.same ∙ c.self.view_is in
    let asked = plain_stored c.args.query.now in
    let query = c.in_ok-query.query in
    let definition = c.in-Some.table.now in
    let catalog : c.catalog.result.now ≡ old.catalog = c.catalog.ensures ∙ ap (λ (e : EngineState g.row.S.Denot). e.catalog) c.self.view_is in
    let again : c.catalog-2.result.now ≡ old.catalog = c.catalog-2.ensures ∙ ap (λ (e : EngineState g.row.S.Denot). e.catalog) c.self.view_is in
    let sound = subst (λ (k : Catalog). NoneApplies (Holds (stored_query_conditions k.tables asked))) catalog c.in_ok-query.ensures.sound in
    let tables : map rows_by_key c.self.inside.tables.current ≡ old.tables = ap (λ (e : EngineState g.row.S.Denot). e.tables) c.self.view_is in
    let closed : c.self.inside.tables.ended ≡ old.ended = ap (λ (e : EngineState g.row.S.Denot). e.ended) c.self.view_is in
    let current : HaveCurrentRows kept.contents (map rows_by_key c.self.inside.tables.current) = subst (HaveCurrentRows kept.contents) (sym tables) kept.current in
    let ended : HaveEnded kept.contents c.self.inside.tables.ended = subst (HaveEnded kept.contents) (sym closed) kept.ended in
    shown_step g.S.Store history old asked kept new query definition c.in_ok-columns.columns c.from_vec.result sound
    (subst (λ (k : Catalog). ResolvesStoredQuery k.tables asked query) catalog c.in_ok-query.ensures.resolved)
    (subst (λ (k : Catalog). table_of k.tables query.table ≡ Some definition) again c.in-Some.ensures)
    c.in_ok-columns.ensures
    (has_the_same g.S.Store history old kept new same)
    (subst (AreShownIn kept.contents query) (sym c.from_vec.ensures) (c.in_ok-rows.ensures.right kept.contents current ended))

pub returns-in_err-rows-clause-step : goal.returns-in_err-rows-clause-step
returns-in_err-rows-clause-step g c = λ usable history kept.
    let p = err_from_is_err_and c.from_residual-in_err-rows.result c.from_residual-in_err-rows.ensures.1 in
    rw (p.1, p.2) (let old : EngineState g.row.S.Denot = c.args.self.now in
    let new : EngineState g.row.S.Denot = engine_with c.self.inside.store c.shown_by.new.tables in
    let same : new ≡ old = ap (engine_with c.self.inside.store) c.shown_by.ensures.same ∙ c.self.view_is in
    let asked = plain_stored c.args.query.now in
    let catalog : c.catalog.result.now ≡ old.catalog = c.catalog.ensures ∙ ap (λ (e : EngineState g.row.S.Denot). e.catalog) c.self.view_is in
    let sound = subst (λ (k : Catalog). NoneApplies (Holds (stored_query_conditions k.tables asked))) catalog c.in_ok-query.ensures.sound in
    failed_show g.S.Store history old asked kept new Memory sound (has_the_same g.S.Store history old kept new same) (inl refl))

pub returns-in_err-query-clause-queries : goal.returns-in_err-query-clause-queries
returns-in_err-query-clause-queries g c = λ usable history kept.
    let p = err_from_is_err_and c.from_residual.result c.from_residual.ensures.1 in
    rw (p.1, p.2) (let same : c.catalog.result.now.tables ≡ c.args.self.now.catalog.tables = ap (λ (k : Catalog). k.tables) c.catalog.ensures ∙ ap (λ s. s.catalog.tables) c.self.view_is in
    inl (subst (λ (tables : List TableDef). MayAnswer (Holds (stored_query_conditions tables (plain_stored c.args.query.now))) c.in_err-query.field-0.0) same c.in_err-query.ensures.refused))

pub returns-in_err-rows-clause-queries : goal.returns-in_err-rows-clause-queries
returns-in_err-rows-clause-queries g c = λ usable history kept.
    let p = err_from_is_err_and c.from_residual-in_err-rows.result c.from_residual-in_err-rows.ensures.1 in
    rw (p.1, p.2) (let old : EngineState g.row.S.Denot = c.args.self.now in
    let new : EngineState g.row.S.Denot = engine_with c.self.inside.store c.shown_by.new.tables in
    failed_query g.S.Store old new (statement.stored (plain_stored c.args.query.now)) Memory (inl refl))

pub returns-clause-over : goal.returns-clause-over
returns-clause-over g c =
    let asked = plain_stored c.args.query.now in
    let old : EngineState g.row.S.Denot = c.args.self.now in
    let catalog : c.catalog.result.now ≡ old.catalog = c.catalog.ensures ∙ ap (λ (e : EngineState g.row.S.Denot). e.catalog) c.self.view_is in
    let new : EngineState g.row.S.Denot = engine_with c.self.inside.store c.shown_by.new.tables in
    let same : new ≡ old = ap (engine_with c.self.inside.store) c.shown_by.ensures.same ∙ c.self.view_is in
    asked_over g.S.Store old (statement.stored asked) new _ same
    (subst (λ (k : Catalog). NoneApplies (Holds (stored_query_conditions k.tables asked))) catalog c.in_ok-query.ensures.sound) (refl, refl)

pub returns-in_err-query-clause-over : goal.returns-in_err-query-clause-over
returns-in_err-query-clause-over g c =
    let p = err_from_is_err_and c.from_residual.result c.from_residual.ensures.1 in
    rw (p.1, p.2) (let same : c.catalog.result.now.tables ≡ c.args.self.now.catalog.tables = ap (λ (k : Catalog). k.tables) c.catalog.ensures ∙ ap (λ s. s.catalog.tables) c.self.view_is in
    untouched_over g.S.Store c.args.self.now (statement.stored (plain_stored c.args.query.now)) c.args.self.now c.in_err-query.field-0.0 refl
    (inl (inl (subst (λ (tables : List TableDef). MayAnswer (Holds (stored_query_conditions tables (plain_stored c.args.query.now))) c.in_err-query.field-0.0) same c.in_err-query.ensures.refused))))

pub returns-in_err-rows-clause-over : goal.returns-in_err-rows-clause-over
returns-in_err-rows-clause-over g c =
    let p = err_from_is_err_and c.from_residual-in_err-rows.result c.from_residual-in_err-rows.ensures.1 in
    rw (p.1, p.2) (let asked = plain_stored c.args.query.now in
    let old : EngineState g.row.S.Denot = c.args.self.now in
    let catalog : c.catalog.result.now ≡ old.catalog = c.catalog.ensures ∙ ap (λ (e : EngineState g.row.S.Denot). e.catalog) c.self.view_is in
    let new : EngineState g.row.S.Denot = engine_with c.self.inside.store c.shown_by.new.tables in
    let same : new ≡ old = ap (engine_with c.self.inside.store) c.shown_by.ensures.same ∙ c.self.view_is in
    untouched_over g.S.Store old (statement.stored asked) new Memory same
    (failed_over old.catalog.tables old.clock (statement.stored asked) Memory
    (subst (λ (k : Catalog). NoneApplies (Holds (stored_query_conditions k.tables asked))) catalog c.in_ok-query.ensures.sound) (inl refl)))

pub returns-clause-healthy : goal.returns-clause-healthy
returns-clause-healthy g c = λ usable history kept left room. subst (λ (e : EngineState g.row.S.Denot). IsHealthy left (state g.S.Store e.connection).now) (sym c.self.view_is) room.healthy
