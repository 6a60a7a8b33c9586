-- Each way in which the engine runs a statement is a step of the histories that it represents.
use Rattle.std.proofs.Common.{◌≡◌, ◌<◌, ◌<ℤ◌, ◌≤ℤ◌, ℤ, List, Result, Ok, Err, OnOk, length, refl, sym, ◌∙◌, subst, inl, inr}
use Rattle.std.proofs.lemmas.Result.{on_ok_weaker}
use Rattle.period_core.specs.Leasts.{MayAnswer, NoneApplies}
use Rattle.period_core.specs.Moments.{forever}
use Rattle.period_core.specs.declared.refusal.Refusal.{Refusal}
use Rattle.sqlite.specs.Store.{Ghosts}
use Rattle.sql_statements.specs.declared.create.CreateTable.{CreateTable}
use Rattle.sql_statements.specs.Trees.{Statement}
use Rattle.sql_statements.specs.Trees as statement
use Rattle.catalog_core.specs.create.Creation.{create_conditions}
use Rattle.catalog_core.specs.create.Definition.{Defines}
use Rattle.catalog_core.specs.RefusalConditions.{Holds}
use Rattle.catalog_core.specs.declared.table.TableDef.{TableDef}
use Rattle.version_store.specs.Changed.{with_clock, with_table}
use Rattle.catalog_core.specs.Limits.{most_tables}
use Rattle.catalog_core.specs.create.Lawful.{IsLawful}
use Rattle.version_store.specs.StoreState.{Changes, IsStoreRefusal, IsUsable}
use Rattle.history_model.specs.Histories.{Advanced, Created, History, catalog_of, last_state, with_event}
use Rattle.script_engine.specs.engine.Runs.{MayRefuse, MayRefuseStatement, StatementApplies, StepsTo}
use Rattle.script_engine.specs.engine.Ended.{HaveEnded}
use Rattle.script_engine.specs.engine.EngineState.{EngineState, store_of}
use Rattle.script_engine.specs.engine.InMemory.{HaveCurrentRows}
use Rattle.script_engine.specs.engine.Stored.{EngineRepresents, HasContents}
use Rattle.statement_reports.specs.declared.outcome.Outcome.TheVariants.{Done}
use Rattle.statement_reports.specs.declared.outcome.Word.TheVariants as word
use Rattle.script_engine.proofs.Contents.{is_left, said-advanced, said-created}
use Rattle.script_engine.proofs.LastState.{nothing_beyond, state_said}
use Rattle.script_engine.proofs.TableNumbers.{few_tables}

-- if no refusal applies, a failure of the database may be answered
pub may_refuse-store : (Applies : Refusal → Type 0) (refusal : Refusal) → IsStoreRefusal refusal → NoneApplies Applies → MayRefuse Applies refusal
may_refuse-store Applies refusal (inl memory) none = inl (inr memory)
may_refuse-store Applies refusal (inr store) none = inr (store, λ other applies. absurd (none other applies))

-- the tables in memory are the history's
pub tables_of : {S : Type 0} (g : Ghosts S) (history : History) (engine : EngineState S) → EngineRepresents g history engine → engine.catalog.tables ≡ catalog_of history
tables_of g history engine kept = kept.stored.catalog ∙ kept.said.tables

-- each statement may be refused by a condition of its own
pub by_condition : (history : History) (s : Statement) (refusal : Refusal) → MayRefuse (StatementApplies history s) refusal → MayRefuseStatement history s refusal
by_condition history (statement.insert i) refusal may = inl may
by_condition history (statement.update u) refusal may = inl may
by_condition history (statement.delete d) refusal may = inl may
by_condition history (statement.at moment) refusal may = may
by_condition history (statement.create c) refusal may = may
by_condition history (statement.sequenced q) refusal may = may
by_condition history (statement.stored q) refusal may = may

-- a refusal leaves the history and the engine as they were
pub refused_step : {S : Type 0} (g : Ghosts S) (history : History) (engine : EngineState S) (s : Statement) (refusal : Refusal) → EngineRepresents g history engine → MayRefuse (StatementApplies history s) refusal → StepsTo g history s (Err refusal) engine
refused_step g history engine s refusal kept may = (history, (by_condition history s refusal may, refl), kept)

-- the history that the engine represents after a refused call
pub still : {S : Type 0} (g : Ghosts S) (history : History) (old new : EngineState S) (kept : EngineRepresents g history old) → HasContents g new kept.contents → EngineRepresents g history new
still g history old new kept has = record { contents = kept.contents; stored = has.stored; said = kept.said; current = has.current; ended = has.ended }

-- the database fails if no refusal applies
pub failed_step : {S : Type 0} (g : Ghosts S) (history : History) (old new : EngineState S) (s : Statement) (refusal : Refusal) (kept : EngineRepresents g history old) → HasContents g new kept.contents →
    IsStoreRefusal refusal → NoneApplies (StatementApplies history s) → StepsTo g history s (Err refusal) new
failed_step g history old new s refusal kept has failure none =
    refused_step g history new s refusal (still g history old new kept has) (may_refuse-store (StatementApplies history s) refusal failure none)

-- ---- AT

pub moved : {S : Type 0} (g : Ghosts S) (history : History) (old new : EngineState S) (result : Result (Unit {0}) Refusal) (moment : ℤ) → Changes g (store_of old) (store_of new) result (with_clock moment) → new.tables ≡ old.tables →
    new.ended ≡ old.ended → old.clock ≤ℤ moment → moment <ℤ forever → IsUsable g new.connection → EngineRepresents g history old → OnOk result (EngineRepresents g (with_event history (Advanced moment)) new)
moved g history old new result moment changes same closed late before usable kept =
    on_ok_weaker result
    (λ stored. record {
      contents = with_clock moment kept.contents;
      stored = stored;
      said = said-advanced history kept.contents moment kept.said (subst (λ (k : ℤ). k ≤ℤ moment) kept.stored.clock late) before;
      current = subst (HaveCurrentRows (with_clock moment kept.contents)) (sym same) (record { keys = kept.current.keys; rows = kept.current.rows });
      ended = subst (HaveEnded (with_clock moment kept.contents)) (sym closed) (λ number. let has = kept.ended number in record { versions = has.versions; held = has.held; all = has.all });
    })
    (changes usable kept.contents kept.stored).0

-- ---- CREATE

pub unmade_step : {S : Type 0} (g : Ghosts S) (history : History) (engine : EngineState S) (create : CreateTable) (refusal : Refusal) → EngineRepresents g history engine →
    MayAnswer (Holds (create_conditions engine.catalog.tables create)) refusal → StepsTo g history (statement.create create) (Err refusal) engine
unmade_step g history engine create refusal kept may =
    refused_step g history engine (statement.create create) refusal kept
    (inl (subst (λ (tables : List TableDef). MayAnswer (Holds (create_conditions tables create)) refusal) (tables_of g history engine kept) may))

pub created_step : {S : Type 0} (g : Ghosts S) (history : History) (old new : EngineState S) (create : CreateTable) (definition : TableDef) (kept : EngineRepresents g history old) →
    NoneApplies (Holds (create_conditions old.catalog.tables create)) → Defines old.catalog.tables create definition → HasContents g new (with_table definition kept.contents) →
    StepsTo g history (statement.create create) (Ok (Done word.Create 0)) new
created_step g history old new create definition kept sound defined has = (
  with_event history (Created definition),
  (
    subst (λ (tables : List TableDef). NoneApplies (Holds (create_conditions tables create))) (tables_of g history old kept) sound,
    record {
      definition = definition;
      defined = subst (λ (tables : List TableDef). Defines tables create definition) (tables_of g history old kept) defined;
      done = refl;
      after = refl;
    },
  ),
  record {
    contents = with_table definition kept.contents;
    stored = has.stored;
    said =
        said-created history kept.contents definition (subst (λ (tables : List TableDef). length tables < most_tables) kept.stored.catalog (few_tables old.catalog.tables create sound))
        (subst (λ (tables : List TableDef). IsLawful tables definition) kept.stored.catalog (create, sound, defined))
        (nothing_beyond kept.contents old.tables kept.current (last_state history) (λ table day. state_said history kept.contents table day (is_left history kept.contents kept.said)))
        kept.said;
    current = has.current;
    ended = has.ended;
  },
)

pub uncreated_step : {S : Type 0} (g : Ghosts S) (history : History) (old new : EngineState S) (create : CreateTable) (refusal : Refusal) (kept : EngineRepresents g history old) →
    NoneApplies (Holds (create_conditions old.catalog.tables create)) → HasContents g new kept.contents → IsStoreRefusal refusal →
    StepsTo g history (statement.create create) (Err refusal) new
uncreated_step g history old new create refusal kept sound has failure =
    failed_step g history old new (statement.create create) refusal kept has failure
    (subst (λ (tables : List TableDef). NoneApplies (Holds (create_conditions tables create))) (tables_of g history old kept) sound)
