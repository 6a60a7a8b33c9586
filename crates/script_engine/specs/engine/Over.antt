-- A statement over an engine whatever its database holds: by the catalog and the clock in
-- memory alone.
use Rattle.std.specs.Prelude.{◌≡◌, ◌++◌, ◌∷◌, [], IfErr, OnErr, OnOk, Result}
use Rattle.period_core.specs.Leasts.{NoneApplies}
use Rattle.period_core.specs.declared.refusal.Refusal.{Refusal}
use Rattle.sql_statements.specs.Trees.{Statement}
use Rattle.sql_statements.specs.Trees as statement
use Rattle.catalog_core.specs.create.Definition.{Defines}
use Rattle.catalog_core.specs.declared.table.TableDef.{TableDef}
use Rattle.sqlite.specs.Store.{Ghosts}
use Rattle.version_store.specs.StoreState.{StaysOnErr}
use Rattle.script_engine.specs.engine.EngineState.{EngineState}
use Rattle.script_engine.specs.engine.Healthy.{StatementFailsOnFault, StatementLeavesHealthy}
use Rattle.script_engine.specs.engine.InMemory.{IsSameInMemory}
use Rattle.script_engine.specs.engine.Runs.{AppliesOver, MayRefuseOver, StepsTo}
use Rattle.script_engine.specs.engine.Stored.{IfRepresents, WasUsable}
use Rattle.statement_reports.specs.declared.outcome.Outcome.{Outcome}

-- the catalog and the clock are as they were
abbrev pub IsAsDefined : {S : Type 0} → EngineState S → EngineState S → Type 0
IsAsDefined old new = (new.catalog.tables ≡ old.catalog.tables) × (new.clock ≡ old.clock)

-- the catalog and the clock that follow if a statement is accepted: AT moves the clock, CREATE
-- adds the definition that it gives, and every other statement leaves both
abbrev pub Follows : {S : Type 0} → EngineState S → Statement → EngineState S → Type 0
Follows old (statement.at moment) new =
    (new.catalog.tables ≡ old.catalog.tables) × (new.clock ≡ moment)
Follows old (statement.create c) new =
    ((definition : TableDef) × Defines old.catalog.tables c definition
    × (new.catalog.tables ≡ old.catalog.tables ++ definition ∷ [])) × (new.clock ≡ old.clock)
Follows old (statement.insert i) new = IsAsDefined old new
Follows old (statement.update u) new = IsAsDefined old new
Follows old (statement.delete d) new = IsAsDefined old new
Follows old (statement.sequenced q) new = IsAsDefined old new
Follows old (statement.stored q) new = IsAsDefined old new

-- no condition of a refusal holds, and the catalog and the clock follow
abbrev pub AcceptsOver : {S : Type 0} → EngineState S → Statement → EngineState S → Type 0
AcceptsOver old s new =
    NoneApplies (AppliesOver old.catalog.tables old.clock s) × Follows old s new

-- a statement's result over an engine
pub record StepOver {S : Type 0} (g : Ghosts S) (old : EngineState S) (s : Statement)
    (result : Result Outcome Refusal) (new : EngineState S) : Type 0 where
  -- refused for a condition of the statement's own, by the catalog and the clock in memory, or with
  -- 42, 43, 61 or 62: what is in memory stays as it was, and the database too
  pub refused : IfErr result (MayRefuseOver old.catalog.tables old.clock s)
  pub memory : OnErr result (IsSameInMemory old new)
  pub none_stored : StaysOnErr g old.connection new.connection result
  -- a statement that is accepted
  pub accepted : OnOk result (AcceptsOver old s new)
  -- the connection was usable before if it is so now
  pub usable : WasUsable g old.connection new.connection

-- a statement that is run over an engine
pub record RunsOver {S : Type 0} (g : Ghosts S) (old : EngineState S) (s : Statement)
    (result : Result Outcome Refusal) (new : EngineState S) : Type 0 where
  -- whatever history the engine represents, it is a step of it
  pub step : IfRepresents g old new (λ history. StepsTo g history s result new)
  -- and whatever the database holds, it has such a result
  pub over : StepOver g old s result new
  -- over a healthy one, with room for what the statement adds:
  -- it is refused with 62 for a fault alone
  pub why : StatementFailsOnFault g old s result new
  -- accepted, it leaves the database healthy
  pub healthy : StatementLeavesHealthy g old s result new
