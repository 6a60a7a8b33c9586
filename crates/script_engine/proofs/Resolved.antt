-- The calls that resolve each form of change, and their results.
use Rattle.std.proofs.Common.{◌≡◌, false, List, Err, Ok, Result, refl}
use Rattle.std.specs.Prelude.{IfErr, IfOk, OnOk}
use Rattle.period_core.specs.Leasts.{MayAnswer, NoneApplies}
use Rattle.period_core.specs.declared.refusal.Refusal.{Refusal}
use Rattle.sql_statements.specs.declared.statement.InsertRows.{InsertRows}
use Rattle.sql_statements.specs.Trees.{Delete, Update}
use Rattle.sql_statements.specs.Trees as statement
use Rattle.catalog_core.specs.RefusalConditions.{Holds}
use Rattle.statement_resolution.specs.change.Insertion.{gives_empty_row, insert_conditions}
use Rattle.statement_resolution.specs.change.PortionChanges.{DeletesAs, ResolvesDelete, ResolvesUpdate, UpdatesAs, delete_conditions, update_conditions}
use Rattle.statement_resolution.specs.change.Resolution.{ResolvesAction, ResolvesInsert}
use Rattle.catalog_core.specs.change.EmptyRows.{has_empty_row}
use Rattle.catalog_core.specs.declared.change.Action.{Action}
use Rattle.catalog_core.specs.declared.change.Action.TheVariants as action
use Rattle.catalog_core.specs.declared.change.Change.{Change}
use Rattle.catalog_core.specs.declared.table.TableDef.{TableDef}
use Rattle.statement_reports.specs.declared.outcome.Word.TheVariants as word
use Rattle.script_engine.specs.engine.Planned.{IsResolved, word_of}

inserts : (t : TableDef) (i : InsertRows) (a : Action) → ResolvesAction t i a → word.Insert ≡ word_of a
inserts t i (action.Insert given) resolved = refl
inserts t i (action.Update portion assignments condition) resolved = absurd resolved
inserts t i (action.Delete portion condition) resolved = absurd resolved

updates : (t : TableDef) (u : Update) (a : Action) → UpdatesAs t u a → (word.Update ≡ word_of a) × (false ≡ has_empty_row a)
updates t u (action.Insert given) resolved = absurd resolved
updates t u (action.Update portion assignments condition) resolved = (refl, refl)
updates t u (action.Delete portion condition) resolved = absurd resolved

deletes : (t : TableDef) (d : Delete) (a : Action) → DeletesAs t d a → (word.Delete ≡ word_of a) × (false ≡ has_empty_row a)
deletes t d (action.Insert given) resolved = absurd resolved
deletes t d (action.Update portion assignments condition) resolved = absurd resolved
deletes t d (action.Delete portion condition) resolved = (refl, refl)

module _ (catalog : List TableDef) where
  pub resolved_insert : (i : InsertRows) (r : Result Change Refusal)
      → OnOk r (NoneApplies (Holds (insert_conditions catalog i)))
      → IfOk r (λ change. ResolvesInsert catalog i change)
      → IfOk r (λ change. gives_empty_row catalog i ≡ has_empty_row change.action)
      → IfErr r (MayAnswer (Holds (insert_conditions catalog i)))
      → IsResolved catalog (statement.insert i) word.Insert r
  resolved_insert i (Ok change) sound resolved empty refused =
      record { form = tt; told = inserts resolved.definition i change.action resolved.action; sound = sound; change = resolved; empty = empty; refused = refused }
  resolved_insert i (Err refusal) sound resolved empty refused =
      record { form = tt; told = tt; sound = sound; change = resolved; empty = empty; refused = refused }

  pub resolved_update : (u : Update) (r : Result Change Refusal)
      → OnOk r (NoneApplies (Holds (update_conditions catalog u)))
      → IfOk r (λ change. ResolvesUpdate catalog u change)
      → IfErr r (MayAnswer (Holds (update_conditions catalog u)))
      → IsResolved catalog (statement.update u) word.Update r
  resolved_update u (Ok change) sound resolved refused =
      let said = updates resolved.definition u change.action resolved.action in
      record { form = tt; told = said.0; sound = sound; change = resolved; empty = said.1; refused = refused }
  resolved_update u (Err refusal) sound resolved refused =
      record { form = tt; told = tt; sound = sound; change = resolved; empty = tt; refused = refused }

  pub resolved_delete : (d : Delete) (r : Result Change Refusal)
      → OnOk r (NoneApplies (Holds (delete_conditions catalog d)))
      → IfOk r (λ change. ResolvesDelete catalog d change)
      → IfErr r (MayAnswer (Holds (delete_conditions catalog d)))
      → IsResolved catalog (statement.delete d) word.Delete r
  resolved_delete d (Ok change) sound resolved refused =
      let said = deletes resolved.definition d change.action resolved.action in
      record { form = tt; told = said.0; sound = sound; change = resolved; empty = said.1; refused = refused }
  resolved_delete d (Err refusal) sound resolved refused =
      record { form = tt; told = tt; sound = sound; change = resolved; empty = tt; refused = refused }
