use Rattle.std.proofs.Common.{◌≡◌, ◌∙◌, List, Result, ap, subst, subst₂, sym}
use Rattle.period_core.specs.declared.refusal.Refusal.{Refusal}
use Rattle.sql_statements.specs.Plain.{plain, plain_delete, plain_form, plain_update}
use Rattle.sql_statements.specs.Trees.{Statement}
use Rattle.sql_statements.specs.Trees as statement
use Rattle.catalog_core.specs.declared.change.Change.{Change}
use Rattle.catalog_core.specs.declared.table.TableDef.{TableDef}
use Rattle.catalog_core.specs.declared.table.catalog.Catalog.{Catalog}
use Rattle.statement_reports.specs.declared.outcome.Word.TheVariants as word
use Rattle.script_engine.specs.engine.Planned.{IsResolved}
use Rattle.script_engine.specs.engine.Unwritten.{MayRefuseUnwritten, MayRefuseUnwrittenOver}
use Rattle.script_engine.proofs.Resolved.{resolved_delete, resolved_insert, resolved_update}
use Rattle.script_engine.proofs.engine.Engine.refusal_unwritten.Goals as goal

pub returns-in-At-clause-step : goal.returns-in-At-clause-step
returns-in-At-clause-step g c history kept =
    let said : statement.at c.in-At.moment ≡ plain c.args.statement.now = ap plain_form (sym c.in-At.is) ∙ c.form.ensures in
    subst (λ (s : Statement). MayRefuseUnwritten history s c.refusal_of_at.result) said (c.refusal_of_at.ensures.step history kept)

pub returns-in-At-clause-over : goal.returns-in-At-clause-over
returns-in-At-clause-over g c =
    let said : statement.at c.in-At.moment ≡ plain c.args.statement.now = ap plain_form (sym c.in-At.is) ∙ c.form.ensures in
    subst (λ (s : Statement). MayRefuseUnwrittenOver c.args.self.now.catalog.tables c.args.self.now.clock s c.refusal_of_at.result) said c.refusal_of_at.ensures.over

pub returns-in-Create-clause-step : goal.returns-in-Create-clause-step
returns-in-Create-clause-step g c history kept =
    let said : statement.create c.table.result.now ≡ plain c.args.statement.now = ap statement.create c.table.ensures.value ∙ ap plain_form (sym c.in-Create.is) ∙ c.form.ensures in
    subst (λ (s : Statement). MayRefuseUnwritten history s c.refusal_of_create.result) said (c.refusal_of_create.ensures.step history kept)

pub returns-in-Create-clause-over : goal.returns-in-Create-clause-over
returns-in-Create-clause-over g c =
    let said : statement.create c.table.result.now ≡ plain c.args.statement.now = ap statement.create c.table.ensures.value ∙ ap plain_form (sym c.in-Create.is) ∙ c.form.ensures in
    subst (λ (s : Statement). MayRefuseUnwrittenOver c.args.self.now.catalog.tables c.args.self.now.clock s c.refusal_of_create.result) said c.refusal_of_create.ensures.over

pub refusal_of_change-requires : goal.refusal_of_change-requires
refusal_of_change-requires g c =
    let r : Result Change Refusal = c.resolve_insert-resolved.result in
    let same : c.catalog.result.now.tables ≡ c.args.self.now.catalog.tables = ap (λ (k : Catalog). k.tables) c.catalog.ensures in
    let said : statement.insert c.in-Insert.insert ≡ plain c.args.statement.now = ap plain_form (sym c.in-Insert.is) ∙ c.form.ensures in
    let known : IsResolved c.args.self.now.catalog.tables (plain c.args.statement.now) word.Insert r =
    subst₂ (λ (tables : List TableDef) (s : Statement). IsResolved tables s word.Insert r) same said (resolved_insert c.catalog.result.now.tables c.in-Insert.insert r c.resolve_insert-resolved.ensures.sound c.resolve_insert-resolved.ensures.resolved c.resolve_insert-resolved.ensures.empty c.resolve_insert-resolved.ensures.refused) in
    (plain c.args.statement.now, word.Insert, known)

pub returns-in-Insert-clause-step : goal.returns-in-Insert-clause-step
returns-in-Insert-clause-step g c history kept =
    let r : Result Change Refusal = c.resolve_insert-resolved.result in
    let same : c.catalog.result.now.tables ≡ c.args.self.now.catalog.tables = ap (λ (k : Catalog). k.tables) c.catalog.ensures in
    let said : statement.insert c.in-Insert.insert ≡ plain c.args.statement.now = ap plain_form (sym c.in-Insert.is) ∙ c.form.ensures in
    let known : IsResolved c.args.self.now.catalog.tables (plain c.args.statement.now) word.Insert r =
    subst₂ (λ (tables : List TableDef) (s : Statement). IsResolved tables s word.Insert r) same said (resolved_insert c.catalog.result.now.tables c.in-Insert.insert r c.resolve_insert-resolved.ensures.sound c.resolve_insert-resolved.ensures.resolved c.resolve_insert-resolved.ensures.empty c.resolve_insert-resolved.ensures.refused) in
    c.refusal_of_change.ensures.step history kept (plain c.args.statement.now) word.Insert known

pub returns-in-Insert-clause-over : goal.returns-in-Insert-clause-over
returns-in-Insert-clause-over g c =
    let r : Result Change Refusal = c.resolve_insert-resolved.result in
    let same : c.catalog.result.now.tables ≡ c.args.self.now.catalog.tables = ap (λ (k : Catalog). k.tables) c.catalog.ensures in
    let said : statement.insert c.in-Insert.insert ≡ plain c.args.statement.now = ap plain_form (sym c.in-Insert.is) ∙ c.form.ensures in
    let known : IsResolved c.args.self.now.catalog.tables (plain c.args.statement.now) word.Insert r =
    subst₂ (λ (tables : List TableDef) (s : Statement). IsResolved tables s word.Insert r) same said (resolved_insert c.catalog.result.now.tables c.in-Insert.insert r c.resolve_insert-resolved.ensures.sound c.resolve_insert-resolved.ensures.resolved c.resolve_insert-resolved.ensures.empty c.resolve_insert-resolved.ensures.refused) in
    c.refusal_of_change.ensures.over (plain c.args.statement.now) word.Insert known

pub refusal_of_change-requires-in-Update : goal.refusal_of_change-requires-in-Update
refusal_of_change-requires-in-Update g c =
    let r : Result Change Refusal = c.resolve_update-resolved.result in
    let same : c.catalog-in-Update.result.now.tables ≡ c.args.self.now.catalog.tables = ap (λ (k : Catalog). k.tables) c.catalog-in-Update.ensures in
    let said : statement.update (plain_update c.in-Update.update) ≡ plain c.args.statement.now = ap plain_form (sym c.in-Update.is) ∙ c.form.ensures in
    let known : IsResolved c.args.self.now.catalog.tables (plain c.args.statement.now) word.Update r =
    subst₂ (λ (tables : List TableDef) (s : Statement). IsResolved tables s word.Update r) same said (resolved_update c.catalog-in-Update.result.now.tables (plain_update c.in-Update.update) r c.resolve_update-resolved.ensures.sound c.resolve_update-resolved.ensures.resolved c.resolve_update-resolved.ensures.refused) in
    (plain c.args.statement.now, word.Update, known)

pub returns-in-Update-clause-step : goal.returns-in-Update-clause-step
returns-in-Update-clause-step g c history kept =
    let r : Result Change Refusal = c.resolve_update-resolved.result in
    let same : c.catalog-in-Update.result.now.tables ≡ c.args.self.now.catalog.tables = ap (λ (k : Catalog). k.tables) c.catalog-in-Update.ensures in
    let said : statement.update (plain_update c.in-Update.update) ≡ plain c.args.statement.now = ap plain_form (sym c.in-Update.is) ∙ c.form.ensures in
    let known : IsResolved c.args.self.now.catalog.tables (plain c.args.statement.now) word.Update r =
    subst₂ (λ (tables : List TableDef) (s : Statement). IsResolved tables s word.Update r) same said (resolved_update c.catalog-in-Update.result.now.tables (plain_update c.in-Update.update) r c.resolve_update-resolved.ensures.sound c.resolve_update-resolved.ensures.resolved c.resolve_update-resolved.ensures.refused) in
    c.refusal_of_change-in-Update.ensures.step history kept (plain c.args.statement.now) word.Update known

pub returns-in-Update-clause-over : goal.returns-in-Update-clause-over
returns-in-Update-clause-over g c =
    let r : Result Change Refusal = c.resolve_update-resolved.result in
    let same : c.catalog-in-Update.result.now.tables ≡ c.args.self.now.catalog.tables = ap (λ (k : Catalog). k.tables) c.catalog-in-Update.ensures in
    let said : statement.update (plain_update c.in-Update.update) ≡ plain c.args.statement.now = ap plain_form (sym c.in-Update.is) ∙ c.form.ensures in
    let known : IsResolved c.args.self.now.catalog.tables (plain c.args.statement.now) word.Update r =
    subst₂ (λ (tables : List TableDef) (s : Statement). IsResolved tables s word.Update r) same said (resolved_update c.catalog-in-Update.result.now.tables (plain_update c.in-Update.update) r c.resolve_update-resolved.ensures.sound c.resolve_update-resolved.ensures.resolved c.resolve_update-resolved.ensures.refused) in
    c.refusal_of_change-in-Update.ensures.over (plain c.args.statement.now) word.Update known

pub refusal_of_change-requires-in-Delete : goal.refusal_of_change-requires-in-Delete
refusal_of_change-requires-in-Delete g c =
    let r : Result Change Refusal = c.resolve_delete-resolved.result in
    let same : c.catalog-in-Delete.result.now.tables ≡ c.args.self.now.catalog.tables = ap (λ (k : Catalog). k.tables) c.catalog-in-Delete.ensures in
    let said : statement.delete (plain_delete c.in-Delete.delete) ≡ plain c.args.statement.now = ap plain_form (sym c.in-Delete.is) ∙ c.form.ensures in
    let known : IsResolved c.args.self.now.catalog.tables (plain c.args.statement.now) word.Delete r =
    subst₂ (λ (tables : List TableDef) (s : Statement). IsResolved tables s word.Delete r) same said (resolved_delete c.catalog-in-Delete.result.now.tables (plain_delete c.in-Delete.delete) r c.resolve_delete-resolved.ensures.sound c.resolve_delete-resolved.ensures.resolved c.resolve_delete-resolved.ensures.refused) in
    (plain c.args.statement.now, word.Delete, known)

pub returns-in-Delete-clause-step : goal.returns-in-Delete-clause-step
returns-in-Delete-clause-step g c history kept =
    let r : Result Change Refusal = c.resolve_delete-resolved.result in
    let same : c.catalog-in-Delete.result.now.tables ≡ c.args.self.now.catalog.tables = ap (λ (k : Catalog). k.tables) c.catalog-in-Delete.ensures in
    let said : statement.delete (plain_delete c.in-Delete.delete) ≡ plain c.args.statement.now = ap plain_form (sym c.in-Delete.is) ∙ c.form.ensures in
    let known : IsResolved c.args.self.now.catalog.tables (plain c.args.statement.now) word.Delete r =
    subst₂ (λ (tables : List TableDef) (s : Statement). IsResolved tables s word.Delete r) same said (resolved_delete c.catalog-in-Delete.result.now.tables (plain_delete c.in-Delete.delete) r c.resolve_delete-resolved.ensures.sound c.resolve_delete-resolved.ensures.resolved c.resolve_delete-resolved.ensures.refused) in
    c.refusal_of_change-in-Delete.ensures.step history kept (plain c.args.statement.now) word.Delete known

pub returns-in-Delete-clause-over : goal.returns-in-Delete-clause-over
returns-in-Delete-clause-over g c =
    let r : Result Change Refusal = c.resolve_delete-resolved.result in
    let same : c.catalog-in-Delete.result.now.tables ≡ c.args.self.now.catalog.tables = ap (λ (k : Catalog). k.tables) c.catalog-in-Delete.ensures in
    let said : statement.delete (plain_delete c.in-Delete.delete) ≡ plain c.args.statement.now = ap plain_form (sym c.in-Delete.is) ∙ c.form.ensures in
    let known : IsResolved c.args.self.now.catalog.tables (plain c.args.statement.now) word.Delete r =
    subst₂ (λ (tables : List TableDef) (s : Statement). IsResolved tables s word.Delete r) same said (resolved_delete c.catalog-in-Delete.result.now.tables (plain_delete c.in-Delete.delete) r c.resolve_delete-resolved.ensures.sound c.resolve_delete-resolved.ensures.resolved c.resolve_delete-resolved.ensures.refused) in
    c.refusal_of_change-in-Delete.ensures.over (plain c.args.statement.now) word.Delete known
