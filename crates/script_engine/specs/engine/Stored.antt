-- The contents of an engine: those that a history says, the versions in any order.
use Rattle.std.specs.Prelude.{◌≡◌, ◌⊎◌, ℕ, List, map, IsPermutation, OnErr, Result}
use Rattle.period_core.specs.declared.refusal.Refusal.{Refusal}
use Rattle.period_core.specs.declared.version.VersionRow.{VersionRow}
use Rattle.sqlite.specs.Effect.{Database}
use Rattle.sqlite.specs.Held.{Held}
use Rattle.sqlite.specs.Store.{Ghosts}
use Rattle.version_tables.specs.Presence.{HasNoStoreTable}
use Rattle.version_tables.specs.Tables.{no_schema}
use Rattle.version_tables.specs.declared.form.Form.{Form}
use Rattle.version_store.specs.Contents.{Contents, TableVersion, of_table, version_in}
use Rattle.version_store.specs.GoodStore.{AreGood, IsGoodStore, NoExtraCondition}
use Rattle.version_store.specs.StoreState.{IsUsable, StoreRepresents}
use Rattle.version_store.specs.Units.{in_microseconds}
use Rattle.version_store.specs.Written.{HasIn}
use Rattle.history_model.specs.Histories.{History, IsInOrder, catalog_of, clock_of, new_database}
use Rattle.history_model.specs.Histories.{last_state, opened}
use Rattle.history_model.specs.HistoryVersions.{AreVersionsOf}
use Rattle.period_keys.specs.Current.{rows_by_key}
use Rattle.period_keys.specs.Lawful.{IsLawfulState}
use Rattle.ended_versions.specs.Packed.{PackedVersion}
use Rattle.period_keys.specs.Rows.{RowsByKey}
use Rattle.script_engine.specs.engine.Ended.{HaveEnded}
use Rattle.script_engine.specs.engine.EngineState.{EngineState, store_of}
use Rattle.script_engine.specs.engine.Faults.{AreConstrained}
use Rattle.script_engine.specs.engine.InMemory.{HaveCurrentRows}
use Rattle.script_engine.specs.engine.TablesState.{TablesState}

-- the versions of the table are, in any order, those that the history leaves of it
pub record HoldsTable (history : History) (versions : List TableVersion) (table : ℕ) : Type 0
  where
    pub rows : List VersionRow
    pub left : AreVersionsOf history table rows
    pub all : IsPermutation (of_table table versions) (map (version_in table) rows)

-- the contents are what the history says: its clock, its tables and, in any order, its versions
pub record AreOfHistory (history : History) (c : Contents) : Type 0 where
  -- the history is one that statements make: AT moves forward, and each change is made at the clock
  pub order : IsInOrder history
  pub clock : c.clock ≡ clock_of history
  pub tables : c.tables ≡ catalog_of history
  pub versions : (table : ℕ) → HoldsTable history c.versions table
  -- a store may have them: the clock is below FOREVER, the tables are lawful, and each version has
  -- the values of a row of a table that exists, and is recorded up to the clock
  pub good : AreGood NoExtraCondition c
  -- in the last state no two rows of a table share its key on any day, and each child row has its
  -- parent
  pub lawful : IsLawfulState (catalog_of history) (last_state history)

-- the versions in memory are those that the history leaves: the current ones, and those that have
-- ended
pub record RowsRepresent (history : History) (tables : List RowsByKey)
    (lists : List (List PackedVersion)) : Type 0 where
  pub contents : Contents
  pub said : AreOfHistory history contents
  pub current : HaveCurrentRows contents tables
  pub ended : HaveEnded contents lists

-- the versions of the tables in memory are those that the history leaves
abbrev pub TablesRepresent : History → TablesState → Type 0
TablesRepresent history tables =
    RowsRepresent history (map rows_by_key tables.current) tables.ended

-- the engine has these contents: in the database, as it was last committed, and in memory, with
-- all versions of each table
pub record HasContents {S : Type 0} (g : Ghosts S) (engine : EngineState S) (c : Contents)
    : Type 0 where
  pub stored : StoreRepresents g (store_of engine) c
  pub current : HaveCurrentRows c engine.tables
  pub ended : HaveEnded c engine.ended

-- the engine has the history's clock, its tables and, in any order, its versions
pub record EngineRepresents {S : Type 0} (g : Ghosts S) (history : History)
    (engine : EngineState S) : Type 0 where
  pub contents : Contents
  pub stored : StoreRepresents g (store_of engine) contents
  pub said : AreOfHistory history contents
  pub current : HaveCurrentRows contents engine.tables
  pub ended : HaveEnded contents engine.ended

-- the engine represents a history of which this holds
abbrev pub RepresentsSome : {S : Type 0} → Ghosts S → (History → Type 0) → EngineState S → Type 0
RepresentsSome g Holds engine =
    (history : History) × Holds history × EngineRepresents g history engine

-- the database is what the history says, if its moments are counted in microseconds, of
-- whichever form it is; one without tables is a new store
abbrev pub DatabaseRepresents : History → Database → Type 0
DatabaseRepresents history db =
    ((db.schema ≡ no_schema) × (history ≡ opened new_database))
    ⊎ ((form : Form) × (c : Contents) × HasIn form db c
    × AreOfHistory history (in_microseconds form c))

-- the database has some of the three tables, and is no good store
abbrev pub IsBadStore : Database → Type 0
IsBadStore db = (¬ HasNoStoreTable db.schema) × ¬ IsGoodStore AreConstrained db

-- whatever history the engine represented, this is so of it, if the connection is usable in the end
abbrev pub IfRepresents : {S : Type 0} → Ghosts S → EngineState S → EngineState S
    → (History → Type 0) → Type 0
IfRepresents g old new Holds =
    IsUsable g new.connection → (history : History) → EngineRepresents g history old → Holds history

-- the connection was usable before if it is so now
abbrev pub WasUsable : {S : Type 0} → Ghosts S → Held S → Held S → Type 0
WasUsable g old new = IsUsable g new → IsUsable g old

-- if a call is refused, the catalog, the clock and the versions are as they were, in memory and
-- in the database
abbrev pub KeepsOnErr : {S X : Type 0} → Ghosts S → EngineState S → EngineState S
    → Result X Refusal → Type 0
KeepsOnErr g old new result =
    IsUsable g new.connection → (c : Contents) → HasContents g old c
    → OnErr result (HasContents g new c)

-- the disk returns what was written, and no failure shuts the connection, whatever is done: a store
-- in memory is such a one
abbrev pub IsAlwaysUsable : {S : Type 0} → Ghosts S → Type 0
IsAlwaysUsable {S} g = (connection : Held S) → IsUsable g connection
