-- The outcomes that a statement may have in a history, and the history that follows.
use Rattle.std.specs.Prelude.{◌≡◌, ◌⊎◌, ◌<◌, ◌<ℤ◌, ◌≤ℤ◌, ◌++◌, ◌∷◌, ℤ, [], Result, Ok, Err}
use Rattle.std.specs.Prelude.{List, Some, int_lt, map}
use Rattle.period_core.specs.Codes.{code_of}
use Rattle.period_core.specs.Leasts.{MayAnswer, NoneApplies}
use Rattle.period_core.specs.Moments.{forever}
use Rattle.period_core.specs.declared.answer.Answer.{Answer}
use Rattle.period_core.specs.declared.refusal.Refusal.{Refusal}
use Rattle.period_core.specs.declared.refusal.Refusal.TheVariants.{BadMoment, KeyOverlap}
use Rattle.period_core.specs.declared.refusal.Refusal.TheVariants.{MomentBack, PeriodReference}
use Rattle.period_core.specs.declared.refusal.Refusal.TheVariants.{Store}
use Rattle.period_core.specs.declared.version.VersionRow.{VersionRow}
use Rattle.sql_statements.specs.declared.create.CreateTable.{CreateTable}
use Rattle.sql_statements.specs.Trees.{Statement}
use Rattle.sql_statements.specs.Trees as statement
use Rattle.catalog_core.specs.create.Creation.{create_conditions}
use Rattle.catalog_core.specs.create.Definition.{Defines}
use Rattle.catalog_core.specs.RefusalConditions.{Holds}
use Rattle.statement_resolution.specs.change.Resolution.{IsChange, ResolvesChange}
use Rattle.statement_resolution.specs.change.Resolution.{change_conditions}
use Rattle.statement_resolution.specs.change.Resolution.{empty_period}
use Rattle.catalog_core.specs.query.Queries.{Query}
use Rattle.statement_resolution.specs.query.Resolving.{ResolvesQuery, query_conditions}
use Rattle.statement_resolution.specs.stored.StoredQueries.{ResolvesStored, stored_conditions}
use Rattle.catalog_core.specs.table.TableWords.{table_of}
use Rattle.history_model.specs.Histories.{Advanced, Queried, Changed, Created, History}
use Rattle.history_model.specs.Histories.{catalog_of, clock_of, last_state, with_event}
use Rattle.history_model.specs.HistoryVersions.{AreVersionsOf, versions_of}
use Rattle.history_model.specs.OrdinaryQuery.{InAnswerOn}
use Rattle.period_keys.specs.Lawful.{IsLawfulChange}
use Rattle.sqlite.specs.Store.{Ghosts}
use Rattle.sqlite.specs.Held.{state}
use Rattle.version_tables.specs.Steps.{HasFault}
use Rattle.version_store.specs.StoreState.{IsStoreRefusal}
use Rattle.script_engine.specs.engine.EngineState.{EngineState}
use Rattle.script_engine.specs.engine.Stored.{RepresentsSome}
use Rattle.catalog_core.specs.declared.change.Change.{Change}
use Rattle.catalog_core.specs.declared.query.AnswerColumn.{AnswerColumn}
use Rattle.catalog_core.specs.declared.stored.Stored.{Stored}
use Rattle.catalog_core.specs.declared.table.TableDef.{TableDef}
use Rattle.script_engine.specs.Headline.{IsSequencedAnswer}
use Rattle.script_engine.specs.engine.Answering.{columns_of}
use Rattle.script_engine.specs.engine.Faults.{IsFault}
use Rattle.script_engine.specs.engine.Planned.{count_of, word_of}
use Rattle.script_engine.specs.engine.VersionLists.{AreShown, version_columns}
use Rattle.statement_reports.specs.declared.outcome.Outcome.{Outcome}
use Rattle.statement_reports.specs.declared.outcome.Outcome.TheVariants.{Done}
use Rattle.statement_reports.specs.declared.outcome.Outcome.TheVariants.{Answer as Answered}
use Rattle.statement_reports.specs.declared.outcome.Outcome.TheVariants.{Versions}
use Rattle.statement_reports.specs.declared.outcome.VersionList.{VersionList}
use Rattle.statement_reports.specs.declared.outcome.Word.TheVariants as word

-- the conditions of a change, and the condition of an empty period of a row that INSERT gives
abbrev pub ChangeApplies : List TableDef → Statement → Refusal → Type 0
ChangeApplies catalog s = Holds (change_conditions catalog s ++ empty_period catalog s ∷ [])

-- the condition of each refusal, for a statement over a catalog and a clock
abbrev pub AppliesOver : List TableDef → ℤ → Statement → Refusal → Type 0
AppliesOver catalog clock (statement.at moment) = Holds ((MomentBack, int_lt moment clock) ∷ [])
AppliesOver catalog clock (statement.create c) = Holds (create_conditions catalog c)
AppliesOver catalog clock (statement.insert i) = ChangeApplies catalog (statement.insert i)
AppliesOver catalog clock (statement.update u) = ChangeApplies catalog (statement.update u)
AppliesOver catalog clock (statement.delete d) = ChangeApplies catalog (statement.delete d)
AppliesOver catalog clock (statement.sequenced q) =
    Holds (query_conditions catalog (statement.sequenced q))
AppliesOver catalog clock (statement.stored q) =
    Holds (stored_conditions catalog (statement.stored q))

-- the conditions of a statement in a history: over its tables and its clock
abbrev pub StatementApplies : History → Statement → Refusal → Type 0
StatementApplies history = AppliesOver (catalog_of history) (clock_of history)

-- no condition of 1 to 31 or 40 holds
abbrev pub NoneBeforeStore : (Refusal → Type 0) → Type 0
NoneBeforeStore Applies = (refusal : Refusal) → Applies refusal → 40 < code_of refusal

-- the refusals that a statement may get: the least, or out of memory in its place; another failure
-- of the database only if no condition of 1 to 31 or 40 holds
abbrev pub MayRefuse : (Refusal → Type 0) → Refusal → Type 0
MayRefuse Applies refusal =
    MayAnswer Applies refusal ⊎ ((refusal ≡ Store) × NoneBeforeStore Applies)

-- 42 or 43
abbrev pub IsConstraintRefusal : Refusal → Type 0
IsConstraintRefusal (KeyOverlap day) = Unit {0}
IsConstraintRefusal (PeriodReference day) = Unit {0}
IsConstraintRefusal _ = ⊥

-- the refusals that a statement may get whatever the database holds, over the catalog and the clock
-- in memory: by a condition of its own; a change of which none of 1 to 41 holds also 42 or 43
abbrev pub MayRefuseOver : List TableDef → ℤ → Statement → Refusal → Type 0
MayRefuseOver catalog clock s refusal =
    MayRefuse (AppliesOver catalog clock s) refusal
    ⊎ (IsChange s × IsConstraintRefusal refusal × NoneApplies (AppliesOver catalog clock s))

-- the statement asks, and changes nothing
abbrev pub IsQuery : Statement → Type 0
IsQuery (statement.sequenced q) = Unit {0}
IsQuery (statement.stored q) = Unit {0}
IsQuery _ = ⊥

-- the refusals that a query of an engine that represents a history may get: by a condition of its
-- own, or out of memory; or there was a fault of the database
abbrev pub MayRefuseQuery : {S : Type 0} → Ghosts S → EngineState S → EngineState S → Statement
    → Refusal → Type 0
MayRefuseQuery g old new s refusal =
    MayAnswer (AppliesOver old.catalog.tables old.clock s) refusal
    ⊎ HasFault (state g old.connection) (state g new.connection)

-- the refusals that a moment may get: 13 for FOREVER, 40 for one before the clock, and only for a
-- later one out of memory or another failure of the database
abbrev pub MayRefuseMoment : ℤ → ℤ → Refusal → Type 0
MayRefuseMoment clock moment refusal =
    ((refusal ≡ BadMoment) × (moment ≡ forever))
    ⊎ (((refusal ≡ MomentBack) × (moment <ℤ clock))
    ⊎ (IsStoreRefusal refusal × (clock ≤ℤ moment) × (moment <ℤ forever)))

-- no condition of 1 to 41 holds, and the change that the statement makes breaks its table's key or
-- a reference: 42 or 43, with the least day on which it does
pub record IsUnlawful (history : History) (s : Statement) (refusal : Refusal) : Type 0 where
  pub sound : NoneApplies (StatementApplies history s)
  pub change : Change
  pub resolved : ResolvesChange (catalog_of history) s change
  pub fault : IsFault (catalog_of history) (last_state history) change refusal

-- the refusals that a statement may get: by a condition of its own; a change also by its fault
abbrev pub MayRefuseStatement : History → Statement → Refusal → Type 0
MayRefuseStatement history (statement.insert i) refusal =
    MayRefuse (StatementApplies history (statement.insert i)) refusal
    ⊎ IsUnlawful history (statement.insert i) refusal
MayRefuseStatement history (statement.update u) refusal =
    MayRefuse (StatementApplies history (statement.update u)) refusal
    ⊎ IsUnlawful history (statement.update u) refusal
MayRefuseStatement history (statement.delete d) refusal =
    MayRefuse (StatementApplies history (statement.delete d)) refusal
    ⊎ IsUnlawful history (statement.delete d) refusal
MayRefuseStatement history s refusal = MayRefuse (StatementApplies history s) refusal

-- AT moves the clock
pub record Advances
    (history : History) (moment : ℤ) (outcome : Outcome) (new : History) : Type 0 where
  pub done : outcome ≡ Done word.At 0
  pub after : new ≡ with_event history (Advanced moment)

-- CREATE adds the definition that it gives
pub record Creates
    (history : History)
    (create : CreateTable)
    (outcome : Outcome)
    (new : History) : Type 0 where
  pub definition : TableDef
  pub defined : Defines (catalog_of history) create definition
  pub done : outcome ≡ Done word.Create 0
  pub after : new ≡ with_event history (Created definition)

-- a change is made as it is resolved, at the clock, if it is lawful; the history as it was gives
-- what is counted
pub record Changes
    (history : History)
    (s : Statement)
    (outcome : Outcome)
    (new : History) : Type 0 where
  pub change : Change
  pub resolved : ResolvesChange (catalog_of history) s change
  pub lawful : IsLawfulChange (catalog_of history) (last_state history) change
  pub done : outcome
      ≡ Done (word_of change.action) (count_of change.action (versions_of history change.table))
  pub after : new ≡ with_event history (Changed (clock_of history) change)

-- a sequenced query is answered by the sets that the ordinary query gives on each day; the leftmost
-- select names the columns
pub record Answers
    (history : History)
    (s : Statement)
    (answer : Answer)
    (new : History) : Type 0 where
  pub query : Query
  pub resolved : ResolvesQuery (catalog_of history) s query
  pub columns : answer.columns ≡ map (λ (item : AnswerColumn). item.name) (columns_of query)
  pub right : IsSequencedAnswer (InAnswerOn history query) answer
  pub after : new ≡ with_event history Queried

-- a stored query shows the versions, of those that the history leaves of its table, that its window
-- sees and its condition holds of, with the table's columns
pub record Shows
    (history : History)
    (s : Statement)
    (list : VersionList)
    (new : History) : Type 0 where
  pub query : Stored
  pub resolved : ResolvesStored (catalog_of history) s query
  pub definition : TableDef
  pub table : table_of (catalog_of history) query.table ≡ Some definition
  pub columns : list.columns ≡ version_columns definition
  pub versions : List VersionRow
  pub left : AreVersionsOf history query.table versions
  pub rows : AreShown query versions list.rows
  pub after : new ≡ with_event history Queried

-- the outcomes of a statement of which no condition of a refusal holds
abbrev pub Accepts : History → Statement → Outcome → History → Type 0
Accepts history (statement.at moment) outcome new = Advances history moment outcome new
Accepts history (statement.create c) outcome new = Creates history c outcome new
Accepts history (statement.insert i) outcome new =
    Changes history (statement.insert i) outcome new
Accepts history (statement.update u) outcome new =
    Changes history (statement.update u) outcome new
Accepts history (statement.delete d) outcome new =
    Changes history (statement.delete d) outcome new
Accepts history (statement.sequenced q) outcome new =
    (answer : Answer) × (outcome ≡ Answered answer)
    × Answers history (statement.sequenced q) answer new
Accepts history (statement.stored q) outcome new =
    (list : VersionList) × (outcome ≡ Versions list)
    × Shows history (statement.stored q) list new

-- a statement's result: refused, and the history stays; or accepted, and added to the history
abbrev pub Step : History → Statement → Result Outcome Refusal → History → Type 0
Step history s (Err refusal) new =
    MayRefuseStatement history s refusal × (new ≡ history)
Step history s (Ok outcome) new =
    NoneApplies (StatementApplies history s) × Accepts history s outcome new

-- the statement's result is a step of the history, and what the engine then holds is what the new
-- history says
abbrev pub StepsTo : {S : Type 0} → Ghosts S → History → Statement → Result Outcome Refusal
    → EngineState S → Type 0
StepsTo g history s result = RepresentsSome g (Step history s result)
