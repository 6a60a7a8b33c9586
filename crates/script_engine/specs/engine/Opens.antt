-- The engine that opening a store gives, and why one is not opened.
use Rattle.std.specs.Prelude.{◌≡◌, ◌≢◌, ◌≤◌, ◌<ℤ◌, ◌⊎◌, ℕ, ℤ, []}
use Rattle.period_core.specs.Encoding.{greatest_number}
use Rattle.period_core.specs.Moments.{first_moment}
use Rattle.sqlite.specs.Held.{Held, state}
use Rattle.sqlite.specs.Store.{Ghosts}
use Rattle.period_core.specs.declared.refusal.Refusal.{Refusal}
use Rattle.period_core.specs.declared.refusal.Refusal.TheVariants.{BadStore}
use Rattle.history_model.specs.Histories.{History, clock_of}
use Rattle.version_tables.specs.Healthy.{IsHealthy}
use Rattle.version_tables.specs.Making.{HasCounters}
use Rattle.version_tables.specs.Presence.{HasNoStoreTable}
use Rattle.version_tables.specs.Represents.{HaveOwnRowids}
use Rattle.version_tables.specs.Steps.{IsAsBefore}
use Rattle.version_tables.specs.Tables.{no_schema}
use Rattle.version_tables.specs.declared.form.Form.TheVariants.{Microseconds, Seconds}
use Rattle.version_store.specs.Contents.{Contents}
use Rattle.version_store.specs.GoodStore.{IsGoodStore}
use Rattle.version_store.specs.StoreState.{IsCreatedAfter, IsFailure, IsOpenRefusal, IsUsable}
use Rattle.version_store.specs.StoreState.{OwnTablesAreWellFormed, SparesOthers}
use Rattle.version_store.specs.Written.{HasIn, IsMovable}
use Rattle.script_engine.specs.engine.EngineState.{EngineState}
use Rattle.script_engine.specs.engine.Faults.{AreConstrained}
use Rattle.script_engine.specs.engine.Stored.{DatabaseRepresents, EngineRepresents, IsBadStore}
use Rattle.script_engine.specs.engine.Stored.{WasUsable}

-- the engine is opened over a connection
pub record Opens {S : Type 0} (g : Ghosts S) (connection : Held S) (engine : EngineState S)
    : Type 0 where
  -- whatever history the database stood for, the engine represents it
  pub represents : IsUsable g engine.connection
      → (history : History) → DatabaseRepresents history (state g connection).now
      → EngineRepresents g history engine
  -- if the tables are the store's, it is a good store, and so one of some history
  pub good : IsUsable g engine.connection → OwnTablesAreWellFormed (state g connection).now.schema
      → HasNoStoreTable (state g connection).now.schema
      ⊎ (IsGoodStore AreConstrained (state g connection).now
      × ((history : History) × EngineRepresents g history engine))
  -- if there was none, a new store is made after all other tables, whose rows stay:
  -- without tables, at the first moment
  pub beside : IsUsable g engine.connection
      → HasNoStoreTable (state g connection).now.schema
      → HasCounters (state g connection).now.schema
      → IsCreatedAfter (state g connection) (state g engine.connection)
  pub empty : HasNoStoreTable (state g connection).now.schema
      → (engine.catalog.tables ≡ []) × (engine.clock ≡ first_moment)
  -- a store of form 2 that was there is as it was
  pub unwritten : IsUsable g engine.connection
      → (c : Contents) → HasIn Microseconds (state g connection).now c
      → IsAsBefore (state g connection) (state g engine.connection)
  -- a new store in a database without tables is healthy, with room for as many versions as there
  -- are numbers; and a store that has tables is as healthy as it was
  pub healthy_new : IsUsable g engine.connection → (state g connection).now.schema ≡ no_schema
      → (count : ℕ) → count ≤ greatest_number → IsHealthy count (state g engine.connection).now
  pub healthy : IsUsable g engine.connection
      → (history : History) → DatabaseRepresents history (state g connection).now
      → engine.catalog.tables ≢ [] → (left : ℕ) → IsHealthy left (state g connection).now
      → IsHealthy left (state g engine.connection).now
  -- the other tables, after the store's, are as they were
  pub others : SparesOthers g connection engine.connection
  pub usable : WasUsable g connection engine.connection

-- a store is left as it was, since the clock of whatever history its database stands for is later
-- than a moment
pub record IsAheadOf {S : Type 0} (g : Ghosts S) (opened left : Held S) (moment : ℤ) : Type 0 where
  pub later : IsUsable g left → (history : History)
      → DatabaseRepresents history (state g opened).now → moment <ℤ clock_of history
  pub none : IsUsable g left → IsAsBefore (state g opened) (state g left)

-- why a store is not opened, which leaves the connection so
pub record IsUnopenedFor {S : Type 0} (g : Ghosts S) (opened left : Held S) (refusal : Refusal)
    : Type 0 where
  -- a good one: memory is out, or there was a fault of the database. One of form 1, which is moved,
  -- is healthy, and its versions are short; its rows have rowids of their own, as the rows of each
  -- table have
  pub why : IsUsable g left → (good : IsGoodStore AreConstrained (state g opened).now)
      → (good.form ≡ Seconds → IsMovable (state g opened).now good.contents)
      → HaveOwnRowids ((state g opened).now.trees 2) → IsFailure g opened left refusal
  -- a new one, in a database without tables: for these reasons alone too
  pub why_new : IsUsable g left → (state g opened).now.schema ≡ no_schema
      → IsFailure g opened left refusal

-- the database is refused as a store for this cause, and stays as it was
pub record RefusesStore {S : Type 0} (g : Ghosts S) (opened : Held S) (refusal : Refusal)
    (left : Held S) : Type 0 where
  pub named : IsOpenRefusal refusal
  pub bad : IsUsable g left → refusal ≡ BadStore → IsBadStore (state g opened).now
  -- a good store, or a new one, only for memory or a fault of the database
  pub why : IsUnopenedFor g opened left refusal
  pub none : IsUsable g left → IsAsBefore (state g opened) (state g left)
