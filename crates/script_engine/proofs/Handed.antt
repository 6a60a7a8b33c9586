-- The versions in memory, and what a query is resolved to, as the answering of a query is handed them.
use Rattle.std.proofs.Common.{◌≡◌, List, subst, sym}
use Rattle.sqlite.specs.Store.{Ghosts}
use Rattle.sql_statements.specs.Trees as written
use Rattle.catalog_core.specs.declared.table.TableDef.{TableDef}
use Rattle.catalog_core.specs.query.Queries.{Query}
use Rattle.statement_resolution.specs.query.Resolving.{ResolvesSequenced}
use Rattle.history_model.specs.Histories.{History, catalog_of}
use Rattle.version_store.specs.StoreState.{StoreState}
use Rattle.script_engine.specs.engine.Answering.{IsOfCatalog}
use Rattle.script_engine.specs.engine.EngineState.{EngineState, engine_with}
use Rattle.script_engine.specs.engine.Stored.{EngineRepresents, HasContents, RowsRepresent, TablesRepresent}
use Rattle.script_engine.specs.engine.TablesState.{TablesState}
use Rattle.script_engine.proofs.Fits.{of_catalog}
use Rattle.script_engine.proofs.Steps.{tables_of}

module _ {S : Type 0} (g : Ghosts S) (history : History) (engine : EngineState S) (kept : EngineRepresents g history engine) where
  -- an engine has the contents that it represents
  pub has_still : HasContents g engine kept.contents
  has_still = record { stored = kept.stored; current = kept.current; ended = kept.ended }

  -- an engine that is the same has the same contents
  pub has_the_same : (other : EngineState S) → other ≡ engine → HasContents g other kept.contents
  has_the_same other same = subst (λ (e : EngineState S). HasContents g e kept.contents) (sym same) has_still

  -- the versions in memory are the history's
  pub handed_rows : (store : StoreState S) (tables : TablesState) → engine_with store tables ≡ engine → TablesRepresent history tables
  handed_rows store tables same =
      let all : RowsRepresent history engine.tables engine.ended = record { contents = kept.contents; said = kept.said; current = kept.current; ended = kept.ended } in
      subst (λ (e : EngineState S). RowsRepresent history e.tables e.ended) (sym same) all

  -- the query that is resolved is of the history's catalog
  pub handed_query : (asked : written.Query) (query : Query) → ResolvesSequenced engine.catalog.tables asked query → IsOfCatalog (catalog_of history) query
  handed_query asked query found =
      of_catalog (catalog_of history) asked query (subst (λ (tables : List TableDef). ResolvesSequenced tables asked query) (tables_of g history engine kept) found)
