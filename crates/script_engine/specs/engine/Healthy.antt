-- Healthy databases: what a statement asks of one, and that 62 then is due to a fault of it.
use Rattle.std.specs.Prelude.{◌≡◌, ◌+◌, ℕ, IfErr, List, OnOk, Result, length}
use Rattle.period_core.specs.declared.refusal.Refusal.{Refusal}
use Rattle.period_core.specs.declared.refusal.Refusal.TheVariants.{Store}
use Rattle.sql_statements.specs.Trees.{Statement}
use Rattle.sql_statements.specs.Trees as statement
use Rattle.sql_statements.specs.declared.create.CreateTable.{CreateTable}
use Rattle.statement_resolution.specs.change.Resolution.{ResolvesChange}
use Rattle.catalog_core.specs.create.Definition.{Defines}
use Rattle.catalog_core.specs.declared.change.Action.{Action}
use Rattle.catalog_core.specs.declared.change.Change.{Change}
use Rattle.catalog_core.specs.declared.table.TableDef.{TableDef}
use Rattle.history_model.specs.Histories.{History, catalog_of}
use Rattle.history_model.specs.HistoryVersions.{touched_rows, versions_of}
use Rattle.history_model.specs.Portions.{added}
use Rattle.history_model.specs.Versions.{PlainVersion}
use Rattle.sqlite.specs.Effect.{Database}
use Rattle.sqlite.specs.Held.{state}
use Rattle.sqlite.specs.Store.{Ghosts}
use Rattle.version_tables.specs.Healthy.{IsHealthy, IsShort}
use Rattle.version_tables.specs.Steps.{HasFault}
use Rattle.version_store.specs.Contents.{Contents}
use Rattle.version_store.specs.StoreState.{IsUsable, StoreRepresents}
use Rattle.version_store.specs.Written.{written_table}
use Rattle.script_engine.specs.engine.EngineState.{EngineState, store_of}
use Rattle.script_engine.specs.engine.Stored.{IfRepresents}

-- the number of versions that an action adds to a table that has these
abbrev pub added_count : Action → List PlainVersion → ℕ
added_count action versions = length (added action (touched_rows action versions))

-- the database is healthy, and has room for what the statement adds in a history, and then for so
-- many versions more
pub record HasRoomFor (history : History) (s : Statement) (left : ℕ) (db : Database) : Type 0
  where
    pub healthy : IsHealthy left db
    -- for the versions that the change adds to its table
    pub versions :
        (change : Change) → ResolvesChange (catalog_of history) s change
        → IsHealthy (added_count change.action (versions_of history change.table) + left) db
    -- in a row, for the definition that CREATE gives
    pub definition :
        (c : CreateTable) → statement.create c ≡ s → (d : TableDef)
        → Defines (catalog_of history) c d → IsShort (written_table d)

-- if a call is refused with 62, there was a fault of the database
abbrev pub FailsByFault : {S X : Type 0} → Ghosts S → EngineState S → EngineState S
    → Result X Refusal → Type 0
FailsByFault g old new result =
    IfErr result (λ refusal. refusal ≡ Store
    → HasFault (state g old.connection) (state g new.connection))

-- over a healthy database, with room for so many versions more, a refusal with 62 is a fault's
abbrev pub FailsOnFault : {S X : Type 0} → Ghosts S → EngineState S → EngineState S
    → Result X Refusal → ℕ → Type 0
FailsOnFault g old new result count =
    IsUsable g new.connection → (c : Contents) → StoreRepresents g (store_of old) c
    → IsHealthy count (state g old.connection).now → FailsByFault g old new result

-- over a database with room for what a statement adds, in a history that the engine represents, its
-- refusal with 62 is a fault's
abbrev pub StatementFailsOnFault : {S X : Type 0} → Ghosts S → EngineState S → Statement
    → Result X Refusal → EngineState S → Type 0
StatementFailsOnFault g old s result new =
    IfRepresents g old new (λ history.
    HasRoomFor history s 0 (state g old.connection).now → FailsByFault g old new result)

-- a statement that is accepted over a database with room for what it adds, and for so many versions
-- more, in a history that the engine represents, leaves it healthy, with room for those
abbrev pub StatementLeavesHealthy : {S X : Type 0} → Ghosts S → EngineState S → Statement
    → Result X Refusal → EngineState S → Type 0
StatementLeavesHealthy g old s result new =
    IfRepresents g old new (λ history.
    (left : ℕ) → HasRoomFor history s left (state g old.connection).now
    → OnOk result (IsHealthy left (state g new.connection).now))
