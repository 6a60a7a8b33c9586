-- A stored query that is answered is a step of the histories that the engine represents.
use Rattle.std.proofs.Common.{◌≡◌, List, Some, Ok, Err, refl, subst, inl}
use Rattle.period_core.specs.Leasts.{MayAnswer, NoneApplies}
use Rattle.period_core.specs.declared.refusal.Refusal.{Refusal}
use Rattle.period_core.specs.declared.version.VersionRow.{VersionRow}
use Rattle.sqlite.specs.Store.{Ghosts}
use Rattle.sql_statements.specs.Trees.{Statement}
use Rattle.sql_statements.specs.Trees as statement
use Rattle.catalog_core.specs.RefusalConditions.{Holds}
use Rattle.statement_resolution.specs.stored.StoredQueries.{ResolvesStoredQuery, stored_query_conditions}
use Rattle.catalog_core.specs.table.TableWords.{table_of}
use Rattle.catalog_core.specs.declared.stored.Stored.{Stored}
use Rattle.catalog_core.specs.declared.table.TableDef.{TableDef}
use Rattle.version_store.specs.StoreState.{IsStoreRefusal}
use Rattle.history_model.specs.Histories.{Queried, History, with_event}
use Rattle.script_engine.specs.engine.Runs.{StepsTo}
use Rattle.script_engine.specs.engine.VersionLists.{AreShownIn, version_columns}
use Rattle.script_engine.specs.engine.EngineState.{EngineState}
use Rattle.script_engine.specs.engine.Stored.{EngineRepresents, HasContents}
use Rattle.statement_reports.specs.declared.outcome.Outcome.TheVariants.{Versions}
use Rattle.statement_reports.specs.declared.outcome.VersionColumn.{VersionColumn}
use Rattle.statement_reports.specs.declared.outcome.VersionList.{VersionList}
use Rattle.script_engine.proofs.Contents.{said-asked}
use Rattle.script_engine.proofs.Steps.{failed_step, refused_step, tables_of}

module _ {S : Type 0} (g : Ghosts S) (history : History) (old : EngineState S) (asked : statement.Stored) (kept : EngineRepresents g history old) where
  abbrev s : Statement
  s = statement.stored asked

  pub unshown_step : (refusal : Refusal) → MayAnswer (Holds (stored_query_conditions old.catalog.tables asked)) refusal → StepsTo g history s (Err refusal) old
  unshown_step refusal may =
      refused_step g history old s refusal kept
      (inl (subst (λ (tables : List TableDef). MayAnswer (Holds (stored_query_conditions tables asked)) refusal) (tables_of g history old kept) may))

  pub failed_show : (new : EngineState S) (refusal : Refusal) → NoneApplies (Holds (stored_query_conditions old.catalog.tables asked)) → HasContents g new kept.contents → IsStoreRefusal refusal → StepsTo g history s (Err refusal) new
  failed_show new refusal sound has failure =
      failed_step g history old new s refusal kept has failure
      (subst (λ (tables : List TableDef). NoneApplies (Holds (stored_query_conditions tables asked))) (tables_of g history old kept) sound)

  pub shown_step : (new : EngineState S) (query : Stored) (definition : TableDef) (columns : List VersionColumn) (rows : List VersionRow) → NoneApplies (Holds (stored_query_conditions old.catalog.tables asked)) →
      ResolvesStoredQuery old.catalog.tables asked query → table_of old.catalog.tables query.table ≡ Some definition → columns ≡ version_columns definition → HasContents g new kept.contents → AreShownIn kept.contents query rows →
      StepsTo g history s (Ok (Versions (record { columns = columns; rows = rows }))) new
  shown_step new query definition columns rows sound resolved there are has shown =
      let holds = kept.said.versions query.table in
      let list : VersionList = record { columns = columns; rows = rows } in (
        with_event history Queried,
        (
          subst (λ (tables : List TableDef). NoneApplies (Holds (stored_query_conditions tables asked))) (tables_of g history old kept) sound,
          (
            list,
            refl,
            record {
              query = query;
              resolved = subst (λ (tables : List TableDef). ResolvesStoredQuery tables asked query) (tables_of g history old kept) resolved;
              definition = definition;
              table = subst (λ (tables : List TableDef). table_of tables query.table ≡ Some definition) (tables_of g history old kept) there;
              columns = are;
              versions = holds.rows;
              left = holds.left;
              rows = shown holds.rows holds.all;
              after = refl;
            },
          ),
        ),
        record { contents = kept.contents; stored = has.stored; said = said-asked history kept.contents kept.said; current = has.current; ended = has.ended },
      )
