use Rattle.std.proofs.Common.{◌≡◌, ◌∙◌, List, ap, inl, inr, refl, subst}
use Rattle.period_core.specs.Leasts.{MayAnswer, NoneApplies}
use Rattle.period_core.specs.declared.refusal.Refusal.TheVariants.{Store}
use Rattle.sql_statements.specs.Trees as statement
use Rattle.catalog_core.specs.create.Creation.{create_conditions}
use Rattle.catalog_core.specs.RefusalConditions.{Holds}
use Rattle.catalog_core.specs.declared.table.TableDef.{TableDef}
use Rattle.catalog_core.specs.declared.table.catalog.Catalog.{Catalog}
use Rattle.script_engine.proofs.UnwrittenFacts.{unwritten_in}
use Rattle.script_engine.proofs.engine.Engine.refusal_of_create.Goals as goal

pub returns-in-Ok-clause-over : goal.returns-in-Ok-clause-over
returns-in-Ok-clause-over g c =
    let same : c.catalog.result.now.tables ≡ c.args.self.now.catalog.tables = ap (λ (k : Catalog). k.tables) c.catalog.ensures ∙ ap (λ s. s.catalog.tables) c.self.view_is in
    inr (subst (λ (tables : List TableDef). NoneApplies (Holds (create_conditions tables c.args.create.now))) same c.in-Ok.ensures.sound, inr refl)

pub returns-in-Ok-clause-step : goal.returns-in-Ok-clause-step
returns-in-Ok-clause-step g c history kept =
    let same : c.catalog.result.now.tables ≡ c.args.self.now.catalog.tables = ap (λ (k : Catalog). k.tables) c.catalog.ensures ∙ ap (λ s. s.catalog.tables) c.self.view_is in
    unwritten_in g.S.Store history c.args.self.now kept (statement.create c.args.create.now) Store (λ none. none)
    (inr (subst (λ (tables : List TableDef). NoneApplies (Holds (create_conditions tables c.args.create.now))) same c.in-Ok.ensures.sound, inr refl))

pub returns-in-Err-clause-over : goal.returns-in-Err-clause-over
returns-in-Err-clause-over g c =
    let same : c.catalog.result.now.tables ≡ c.args.self.now.catalog.tables = ap (λ (k : Catalog). k.tables) c.catalog.ensures ∙ ap (λ s. s.catalog.tables) c.self.view_is in
    inl (subst (λ (tables : List TableDef). MayAnswer (Holds (create_conditions tables c.args.create.now)) c.in-Err.refusal) same c.in-Err.ensures.refused)

pub returns-in-Err-clause-step : goal.returns-in-Err-clause-step
returns-in-Err-clause-step g c history kept =
    let same : c.catalog.result.now.tables ≡ c.args.self.now.catalog.tables = ap (λ (k : Catalog). k.tables) c.catalog.ensures ∙ ap (λ s. s.catalog.tables) c.self.view_is in
    unwritten_in g.S.Store history c.args.self.now kept (statement.create c.args.create.now) c.in-Err.refusal (λ none. none)
    (inl (subst (λ (tables : List TableDef). MayAnswer (Holds (create_conditions tables c.args.create.now)) c.in-Err.refusal) same c.in-Err.ensures.refused))
