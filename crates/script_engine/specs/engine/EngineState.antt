-- The state of an engine: its connection, and in memory the tables, the clock and all versions.
use Rattle.std.specs.Prelude.{ℤ, List, map, refl}
use Rattle.std.specs.Coded.{Coded, code_by, coded×, coded_list}
use Rattle.catalog_core.specs.declared.table.catalog.Catalog.{Catalog}
use Rattle.ended_versions.specs.Packed.{PackedVersion}
use Rattle.ended_versions.specs.contracts.list.EndedVersions.{the_row as a_list}
use Rattle.period_keys.specs.contracts.current_rows.CurrentRows.{the_row}
use Rattle.period_keys.specs.Current.{rows_by_key}
use Rattle.period_keys.specs.Rows.{RowsByKey}
use Rattle.sqlite.specs.Held.{Held}
use Rattle.version_store.specs.StoreState.{StoreState, store_state_code}
use Rattle.script_engine.specs.engine.TablesState.{TablesState}

-- the connection, the tables' definitions, the clock, and in the order of the definitions the
-- current rows of each table, by its key, and its versions that have ended
pub record EngineState (S : Type 0) : Type 0 where
  pub connection : Held S
  pub catalog : Catalog
  pub clock : ℤ
  pub tables : List RowsByKey
  pub ended : List (List PackedVersion)

-- the state of its store
abbrev pub store_of : {S : Type 0} → EngineState S → StoreState S
store_of engine =
    record { connection = engine.connection; catalog = engine.catalog; clock = engine.clock }

-- a store with these versions
abbrev pub engine_of
    : {S : Type 0} → StoreState S → List RowsByKey → List (List PackedVersion) → EngineState S
engine_of store tables ended = record {
  connection = store.connection;
  catalog = store.catalog;
  clock = store.clock;
  tables = tables;
  ended = ended;
}

-- a store with these tables in memory
abbrev pub engine_with : {S : Type 0} → StoreState S → TablesState → EngineState S
engine_with store tables = engine_of store (map rows_by_key tables.current) tables.ended

-- the model's form of it: the store, and after it the versions
abbrev pub engine_state_code : {S : Type 0} → Coded S → Coded (EngineState S)
engine_state_code {S} store =
    code_by (StoreState S × (List RowsByKey × List (List PackedVersion)))
    (coded× (store_state_code store) (coded× (coded_list the_row.coded) (coded_list a_list.coded)))
    (λ e. (store_of e, (e.tables, e.ended)))
    (λ p. engine_of p.0 p.1.0 p.1.1)
    (λ _. refl)
