-- The rows of a store hold the states of its history; and an answer is a step of the histories that the engine represents.
use Rattle.std.proofs.Common.{◌≡◌, ◌<ℤ◌, ◌&&◌, ℕ, ℤ, Bool, List, filter, map, Ok, Err, refl, ◌∙◌, ap, subst, subst₂, inl}
use Rattle.std.specs.List.Sorted.{IsPermutation}
use Rattle.std.proofs.lemmas.List.Sorted.{IsPermutation-map, IsPermutation-sym, IsPermutation-trans}
use Rattle.sqlite.specs.Store.{Ghosts}
use Rattle.sqlite_trees.proofs.ListLemmas.{filter-map, map-map}
use Rattle.period_core.specs.Leasts.{MayAnswer, NoneApplies}
use Rattle.period_core.specs.Moments.{forever}
use Rattle.period_core.specs.Windows.{window_sees}
use Rattle.period_core.specs.declared.answer.Answer.{Answer}
use Rattle.period_core.specs.declared.refusal.Refusal.{Refusal}
use Rattle.period_core.specs.declared.value.Value.{Value}
use Rattle.period_core.specs.declared.version.VersionRow.{VersionRow}
use Rattle.period_core.specs.declared.window.Window.TheVariants.{AsOf}
use Rattle.temporal_model.specs.Snapshot.{covers_day}
use Rattle.temporal_model.proofs.Rearranged.{IsPermutation-filter}
use Rattle.sql_statements.specs.Trees.{Statement}
use Rattle.sql_statements.specs.Trees as statement
use Rattle.catalog_core.specs.RefusalConditions.{Holds}
use Rattle.catalog_core.specs.query.Queries.{Query}
use Rattle.statement_resolution.specs.query.Resolving.{ResolvesQuery, query_conditions}
use Rattle.catalog_core.specs.declared.query.AnswerColumn.{AnswerColumn}
use Rattle.catalog_core.specs.declared.table.TableDef.{TableDef}
use Rattle.version_store.specs.Contents.{AreRowsOf, Contents, TableVersion, of_table, version_in}
use Rattle.version_store.specs.StoreState.{IsStoreRefusal}
use Rattle.history_model.specs.Histories.{Queried, History, state_at, with_event}
use Rattle.history_model.specs.OrdinaryQuery.{InAnswerOn}
use Rattle.history_model.specs.Versions.{is_seen, values_at}
use Rattle.history_model.proofs.HistoryVersionFacts.{left_hold}
use Rattle.script_engine.specs.Headline.{IsSequencedAnswer}
use Rattle.script_engine.specs.engine.Answering.{columns_of}
use Rattle.script_engine.specs.engine.EngineState.{EngineState}
use Rattle.script_engine.specs.engine.Runs.{StepsTo}
use Rattle.script_engine.specs.engine.Stored.{AreOfHistory, EngineRepresents, HasContents}
use Rattle.statement_reports.specs.declared.outcome.Outcome.TheVariants.{Answer as Answered}
use Rattle.script_engine.proofs.Contents.{said-asked}
use Rattle.script_engine.proofs.Steps.{failed_step, refused_step, tables_of}

-- a version of a table is seen as of the moment, and holds on the day
abbrev is_shown : ℤ → ℤ → TableVersion → Bool
is_shown moment day v = window_sees (AsOf moment) v.from v.to && covers_day v.start v.end day

abbrev shown_values : ℤ → ℤ → List TableVersion → List (List Value)
shown_values moment day versions = map (λ (v : TableVersion). v.values) (filter (is_shown moment day) versions)

-- version rows hold the same values as versions of a table
values_shown : (table : ℕ) (rows : List VersionRow) (moment day : ℤ) → shown_values moment day (map (version_in table) rows) ≡ values_at rows moment day
values_shown table rows moment day =
    ap (map (λ (v : TableVersion). v.values)) (filter-map (is_shown moment day) (version_in table) rows)
    ∙ map-map (λ (v : TableVersion). v.values) (version_in table) (filter (is_seen (AsOf moment) day) rows)

-- the rows of a store hold as of each moment on each day the state of the history
pub rows_hold : (history : History) (c : Contents) (table : ℕ) (rows : List VersionRow) → AreOfHistory history c → AreRowsOf c table rows → (moment day : ℤ) → moment <ℤ forever →
    IsPermutation (values_at rows moment day) (state_at history moment table day)
rows_hold history c table rows said are moment day before =
    let holds = said.versions table in
    let shown = λ (versions : List TableVersion). shown_values moment day versions in
    let ours = map (version_in table) rows in
    let its = map (version_in table) holds.rows in
    let same : IsPermutation ours its = IsPermutation-trans ours (of_table table c.versions) its (IsPermutation-sym (of_table table c.versions) ours are.all) holds.all in
    let values : IsPermutation (shown ours) (shown its) =
    IsPermutation-map (λ (v : TableVersion). v.values) (filter (is_shown moment day) ours) (filter (is_shown moment day) its) (IsPermutation-filter (is_shown moment day) ours its same) in
    IsPermutation-trans (values_at rows moment day) (values_at holds.rows moment day) (state_at history moment table day)
    (subst₂ (λ (a b : List (List Value)). IsPermutation a b) (values_shown table rows moment day) (values_shown table holds.rows moment day) values)
    (left_hold history table holds.rows said.order holds.left moment day before)

module _ {S : Type 0} (g : Ghosts S) (history : History) (old : EngineState S) (asked : statement.Query) (kept : EngineRepresents g history old) where
  abbrev s : Statement
  s = statement.sequenced asked

  pub unanswered_step : (refusal : Refusal) → MayAnswer (Holds (query_conditions old.catalog.tables s)) refusal → StepsTo g history s (Err refusal) old
  unanswered_step refusal may =
      refused_step g history old s refusal kept
      (inl (subst (λ (tables : List TableDef). MayAnswer (Holds (query_conditions tables s)) refusal) (tables_of g history old kept) may))

  pub failed_answer : (new : EngineState S) (refusal : Refusal) → NoneApplies (Holds (query_conditions old.catalog.tables s)) → HasContents g new kept.contents → IsStoreRefusal refusal → StepsTo g history s (Err refusal) new
  failed_answer new refusal sound has failure =
      failed_step g history old new s refusal kept has failure
      (subst (λ (tables : List TableDef). NoneApplies (Holds (query_conditions tables s))) (tables_of g history old kept) sound)

  pub answered_step : (new : EngineState S) (query : Query) (answer : Answer) → NoneApplies (Holds (query_conditions old.catalog.tables s)) → ResolvesQuery old.catalog.tables s query → HasContents g new kept.contents →
      answer.columns ≡ map (λ (item : AnswerColumn). item.name) (columns_of query) → IsSequencedAnswer (InAnswerOn history query) answer → StepsTo g history s (Ok (Answered answer)) new
  answered_step new query answer sound resolved has columns right = (
    with_event history Queried,
    (
      subst (λ (tables : List TableDef). NoneApplies (Holds (query_conditions tables s))) (tables_of g history old kept) sound,
      (
        answer,
        refl,
        record {
          query = query;
          resolved = subst (λ (tables : List TableDef). ResolvesQuery tables s query) (tables_of g history old kept) resolved;
          columns = columns;
          right = right;
          after = refl;
        },
      ),
    ),
    record { contents = kept.contents; stored = has.stored; said = said-asked history kept.contents kept.said; current = has.current; ended = has.ended },
  )
