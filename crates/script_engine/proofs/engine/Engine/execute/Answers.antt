use Rattle.std.proofs.Common.{◌≡◌, ◌∙◌, List, Result, ap, subst, subst₂, sym}
use Rattle.std.proofs.lemmas.Result.{IfErr-weaker}
use Rattle.std.specs.Prelude.{IfErr}
use Rattle.period_core.specs.declared.refusal.Refusal.{Refusal}
use Rattle.sql_statements.specs.Plain.{plain, plain_delete, plain_form, plain_query, plain_stored, plain_update}
use Rattle.sql_statements.specs.Trees.{Statement}
use Rattle.sql_statements.specs.Trees as statement
use Rattle.catalog_core.specs.declared.change.Change.{Change}
use Rattle.catalog_core.specs.declared.table.TableDef.{TableDef}
use Rattle.catalog_core.specs.declared.table.catalog.Catalog.{Catalog}
use Rattle.statement_reports.specs.declared.outcome.Word.TheVariants as word
use Rattle.version_store.specs.StoreState.{SparesOthers}
use Rattle.script_engine.specs.engine.EngineState.{EngineState}
use Rattle.script_engine.specs.engine.Over.{RunsOver}
use Rattle.script_engine.specs.engine.Planned.{IsResolved}
use Rattle.script_engine.specs.engine.Runs.{IsQuery, MayRefuseQuery}
use Rattle.script_engine.specs.engine.Stored.{KeepsOnErr}
use Rattle.script_engine.proofs.OnFault.{asked_by_fault}
use Rattle.script_engine.proofs.Resolved.{resolved_delete, resolved_insert, resolved_update}
use Rattle.script_engine.proofs.engine.Engine.execute.Goals as goal

pub returns-in-At-clause-runs : goal.returns-in-At-clause-runs
returns-in-At-clause-runs g c =
    let said : statement.at c.in-At.moment ≡ plain c.args.statement.now = ap plain_form (sym c.in-At.is) ∙ c.form.ensures in
    subst (λ (s : Statement). RunsOver g.S.Store c.args.self.now s c.advance.result c.advance.new.self) said (record {
      step = c.advance.ensures.step;
      over = c.advance.ensures.over;
      why = c.advance.ensures.why;
      healthy = c.advance.ensures.healthy;
    })

pub returns-in-Create-clause-runs : goal.returns-in-Create-clause-runs
returns-in-Create-clause-runs g c =
    let said : statement.create c.table.result.now ≡ plain c.args.statement.now = ap statement.create c.table.ensures.value ∙ ap plain_form (sym c.in-Create.is) ∙ c.form.ensures in
    subst (λ (s : Statement). RunsOver g.S.Store c.args.self.now s c.create.result c.create.new.self) said (record {
      step = c.create.ensures.step;
      over = c.create.ensures.over;
      why = c.create.ensures.why;
      healthy = c.create.ensures.healthy;
    })

pub change-requires : goal.change-requires
change-requires g c =
    let r : Result Change Refusal = c.resolve_insert-resolved.result in
    let same : c.catalog.result.now.tables ≡ c.args.self.now.catalog.tables = ap (λ (k : Catalog). k.tables) c.catalog.ensures in
    let said : statement.insert c.in-Insert.insert ≡ plain c.args.statement.now = ap plain_form (sym c.in-Insert.is) ∙ c.form.ensures in
    let known : IsResolved c.args.self.now.catalog.tables (plain c.args.statement.now) word.Insert r =
    subst₂ (λ (tables : List TableDef) (s : Statement). IsResolved tables s word.Insert r) same said (resolved_insert c.catalog.result.now.tables c.in-Insert.insert r c.resolve_insert-resolved.ensures.sound c.resolve_insert-resolved.ensures.resolved c.resolve_insert-resolved.ensures.empty c.resolve_insert-resolved.ensures.refused) in
    (plain c.args.statement.now, known)

pub returns-in-Insert-clause-runs : goal.returns-in-Insert-clause-runs
returns-in-Insert-clause-runs g c =
    let r : Result Change Refusal = c.resolve_insert-resolved.result in
    let same : c.catalog.result.now.tables ≡ c.args.self.now.catalog.tables = ap (λ (k : Catalog). k.tables) c.catalog.ensures in
    let said : statement.insert c.in-Insert.insert ≡ plain c.args.statement.now = ap plain_form (sym c.in-Insert.is) ∙ c.form.ensures in
    let known : IsResolved c.args.self.now.catalog.tables (plain c.args.statement.now) word.Insert r =
    subst₂ (λ (tables : List TableDef) (s : Statement). IsResolved tables s word.Insert r) same said (resolved_insert c.catalog.result.now.tables c.in-Insert.insert r c.resolve_insert-resolved.ensures.sound c.resolve_insert-resolved.ensures.resolved c.resolve_insert-resolved.ensures.empty c.resolve_insert-resolved.ensures.refused) in
    let s : Statement = plain c.args.statement.now in
    record {
      step = λ usable history kept. c.change.ensures.step usable history kept s known;
      over = c.change.ensures.over s known;
      why = c.change.ensures.why s known;
      healthy = c.change.ensures.healthy s known;
    }

pub change-requires-in-Update : goal.change-requires-in-Update
change-requires-in-Update g c =
    let r : Result Change Refusal = c.resolve_update-resolved.result in
    let same : c.catalog-in-Update.result.now.tables ≡ c.args.self.now.catalog.tables = ap (λ (k : Catalog). k.tables) c.catalog-in-Update.ensures in
    let said : statement.update (plain_update c.in-Update.update) ≡ plain c.args.statement.now = ap plain_form (sym c.in-Update.is) ∙ c.form.ensures in
    let known : IsResolved c.args.self.now.catalog.tables (plain c.args.statement.now) word.Update r =
    subst₂ (λ (tables : List TableDef) (s : Statement). IsResolved tables s word.Update r) same said (resolved_update c.catalog-in-Update.result.now.tables (plain_update c.in-Update.update) r c.resolve_update-resolved.ensures.sound c.resolve_update-resolved.ensures.resolved c.resolve_update-resolved.ensures.refused) in
    (plain c.args.statement.now, subst (λ (e : EngineState g.row.S.Denot). IsResolved e.catalog.tables (plain c.args.statement.now) word.Update r) (sym c.prepare.ensures) known)

pub returns-in-Update-clause-runs : goal.returns-in-Update-clause-runs
returns-in-Update-clause-runs g c =
    let r : Result Change Refusal = c.resolve_update-resolved.result in
    let same : c.catalog-in-Update.result.now.tables ≡ c.args.self.now.catalog.tables = ap (λ (k : Catalog). k.tables) c.catalog-in-Update.ensures in
    let said : statement.update (plain_update c.in-Update.update) ≡ plain c.args.statement.now = ap plain_form (sym c.in-Update.is) ∙ c.form.ensures in
    let known : IsResolved c.args.self.now.catalog.tables (plain c.args.statement.now) word.Update r =
    subst₂ (λ (tables : List TableDef) (s : Statement). IsResolved tables s word.Update r) same said (resolved_update c.catalog-in-Update.result.now.tables (plain_update c.in-Update.update) r c.resolve_update-resolved.ensures.sound c.resolve_update-resolved.ensures.resolved c.resolve_update-resolved.ensures.refused) in
    let s : Statement = plain c.args.statement.now in
    let prepared = subst (λ (e : EngineState g.row.S.Denot). IsResolved e.catalog.tables s word.Update r) (sym c.prepare.ensures) known in
    subst (λ (e : EngineState g.row.S.Denot). RunsOver g.S.Store e s c.change-in-Update.result c.change-in-Update.new.self) c.prepare.ensures (record {
      step = λ usable history kept. c.change-in-Update.ensures.step usable history kept s prepared;
      over = c.change-in-Update.ensures.over s prepared;
      why = c.change-in-Update.ensures.why s prepared;
      healthy = c.change-in-Update.ensures.healthy s prepared;
    })

pub change-requires-in-Delete : goal.change-requires-in-Delete
change-requires-in-Delete g c =
    let r : Result Change Refusal = c.resolve_delete-resolved.result in
    let same : c.catalog-in-Delete.result.now.tables ≡ c.args.self.now.catalog.tables = ap (λ (k : Catalog). k.tables) c.catalog-in-Delete.ensures in
    let said : statement.delete (plain_delete c.in-Delete.delete) ≡ plain c.args.statement.now = ap plain_form (sym c.in-Delete.is) ∙ c.form.ensures in
    let known : IsResolved c.args.self.now.catalog.tables (plain c.args.statement.now) word.Delete r =
    subst₂ (λ (tables : List TableDef) (s : Statement). IsResolved tables s word.Delete r) same said (resolved_delete c.catalog-in-Delete.result.now.tables (plain_delete c.in-Delete.delete) r c.resolve_delete-resolved.ensures.sound c.resolve_delete-resolved.ensures.resolved c.resolve_delete-resolved.ensures.refused) in
    (plain c.args.statement.now, subst (λ (e : EngineState g.row.S.Denot). IsResolved e.catalog.tables (plain c.args.statement.now) word.Delete r) (sym c.prepare-in-Delete.ensures) known)

pub returns-in-Delete-clause-runs : goal.returns-in-Delete-clause-runs
returns-in-Delete-clause-runs g c =
    let r : Result Change Refusal = c.resolve_delete-resolved.result in
    let same : c.catalog-in-Delete.result.now.tables ≡ c.args.self.now.catalog.tables = ap (λ (k : Catalog). k.tables) c.catalog-in-Delete.ensures in
    let said : statement.delete (plain_delete c.in-Delete.delete) ≡ plain c.args.statement.now = ap plain_form (sym c.in-Delete.is) ∙ c.form.ensures in
    let known : IsResolved c.args.self.now.catalog.tables (plain c.args.statement.now) word.Delete r =
    subst₂ (λ (tables : List TableDef) (s : Statement). IsResolved tables s word.Delete r) same said (resolved_delete c.catalog-in-Delete.result.now.tables (plain_delete c.in-Delete.delete) r c.resolve_delete-resolved.ensures.sound c.resolve_delete-resolved.ensures.resolved c.resolve_delete-resolved.ensures.refused) in
    let s : Statement = plain c.args.statement.now in
    let prepared = subst (λ (e : EngineState g.row.S.Denot). IsResolved e.catalog.tables s word.Delete r) (sym c.prepare-in-Delete.ensures) known in
    subst (λ (e : EngineState g.row.S.Denot). RunsOver g.S.Store e s c.change-in-Delete.result c.change-in-Delete.new.self) c.prepare-in-Delete.ensures (record {
      step = λ usable history kept. c.change-in-Delete.ensures.step usable history kept s prepared;
      over = c.change-in-Delete.ensures.over s prepared;
      why = c.change-in-Delete.ensures.why s prepared;
      healthy = c.change-in-Delete.ensures.healthy s prepared;
    })

pub returns-in-Sequenced-clause-runs : goal.returns-in-Sequenced-clause-runs
returns-in-Sequenced-clause-runs g c =
    let said : statement.sequenced (plain_query c.in-Sequenced.query) ≡ plain c.args.statement.now = ap plain_form (sym c.in-Sequenced.is) ∙ c.form.ensures in
    subst (λ (s : Statement). RunsOver g.S.Store c.args.self.now s c.answer.result c.answer.new.self) said (record {
      step = c.answer.ensures.step;
      over = c.answer.ensures.over;
      why = λ usable history kept room. IfErr-weaker c.answer.result _ _ (λ refusal may told. asked_by_fault g.S.Store c.args.self.now c.answer.new.self (statement.sequenced (plain_query c.in-Sequenced.query)) refusal tt may told) (c.answer.ensures.queries usable history kept);
      healthy = c.answer.ensures.healthy;
    })

pub returns-in-Stored-clause-runs : goal.returns-in-Stored-clause-runs
returns-in-Stored-clause-runs g c =
    let said : statement.stored (plain_stored c.in-Stored.query) ≡ plain c.args.statement.now = ap plain_form (sym c.in-Stored.is) ∙ c.form.ensures in
    subst (λ (s : Statement). RunsOver g.S.Store c.args.self.now s c.show.result c.show.new.self) said (record {
      step = c.show.ensures.step;
      over = c.show.ensures.over;
      why = λ usable history kept room. IfErr-weaker c.show.result _ _ (λ refusal may told. asked_by_fault g.S.Store c.args.self.now c.show.new.self (statement.stored (plain_stored c.in-Stored.query)) refusal tt may told) (c.show.ensures.queries usable history kept);
      healthy = c.show.ensures.healthy;
    })

-- ---- queries

pub returns-in-Sequenced-clause-queries : goal.returns-in-Sequenced-clause-queries
returns-in-Sequenced-clause-queries g c = λ usable history kept asks.
    let said : statement.sequenced (plain_query c.in-Sequenced.query) ≡ plain c.args.statement.now = ap plain_form (sym c.in-Sequenced.is) ∙ c.form.ensures in
    subst (λ (s : Statement). IfErr c.answer.result (MayRefuseQuery g.S.Store c.args.self.now c.answer.new.self s)) said (c.answer.ensures.queries usable history kept)

pub returns-in-Stored-clause-queries : goal.returns-in-Stored-clause-queries
returns-in-Stored-clause-queries g c = λ usable history kept asks.
    let said : statement.stored (plain_stored c.in-Stored.query) ≡ plain c.args.statement.now = ap plain_form (sym c.in-Stored.is) ∙ c.form.ensures in
    subst (λ (s : Statement). IfErr c.show.result (MayRefuseQuery g.S.Store c.args.self.now c.show.new.self s)) said (c.show.ensures.queries usable history kept)

pub returns-in-At-clause-queries : goal.returns-in-At-clause-queries
returns-in-At-clause-queries g c = λ usable history kept asks. absurd (subst IsQuery (sym c.form.ensures ∙ ap plain_form c.in-At.is) asks)

pub returns-in-Create-clause-queries : goal.returns-in-Create-clause-queries
returns-in-Create-clause-queries g c = λ usable history kept asks. absurd (subst IsQuery (sym c.form.ensures ∙ ap plain_form c.in-Create.is) asks)

pub returns-in-Insert-clause-queries : goal.returns-in-Insert-clause-queries
returns-in-Insert-clause-queries g c = λ usable history kept asks. absurd (subst IsQuery (sym c.form.ensures ∙ ap plain_form c.in-Insert.is) asks)

pub returns-in-Update-clause-queries : goal.returns-in-Update-clause-queries
returns-in-Update-clause-queries g c = λ usable history kept asks. absurd (subst IsQuery (sym c.form.ensures ∙ ap plain_form c.in-Update.is) asks)

pub returns-in-Delete-clause-queries : goal.returns-in-Delete-clause-queries
returns-in-Delete-clause-queries g c = λ usable history kept asks. absurd (subst IsQuery (sym c.form.ensures ∙ ap plain_form c.in-Delete.is) asks)

-- ---- an index that is made first changes nothing

pub returns-in-Update-clause-kept : goal.returns-in-Update-clause-kept
returns-in-Update-clause-kept g c = subst (λ (e : EngineState g.row.S.Denot). KeepsOnErr g.S.Store e c.change-in-Update.new.self c.change-in-Update.result) c.prepare.ensures c.change-in-Update.ensures.kept

pub returns-in-Update-clause-others : goal.returns-in-Update-clause-others
returns-in-Update-clause-others g c = subst (λ (e : EngineState g.row.S.Denot). SparesOthers g.S.Store e.connection c.change-in-Update.new.self.connection) c.prepare.ensures c.change-in-Update.ensures.others

pub returns-in-Delete-clause-kept : goal.returns-in-Delete-clause-kept
returns-in-Delete-clause-kept g c = subst (λ (e : EngineState g.row.S.Denot). KeepsOnErr g.S.Store e c.change-in-Delete.new.self c.change-in-Delete.result) c.prepare-in-Delete.ensures c.change-in-Delete.ensures.kept

pub returns-in-Delete-clause-others : goal.returns-in-Delete-clause-others
returns-in-Delete-clause-others g c = subst (λ (e : EngineState g.row.S.Denot). SparesOthers g.S.Store e.connection c.change-in-Delete.new.self.connection) c.prepare-in-Delete.ensures c.change-in-Delete.ensures.others
