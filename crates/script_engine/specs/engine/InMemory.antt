-- The current rows of each table in an engine's memory, and what a refusal leaves of them.
use Rattle.std.specs.Prelude.{◌≡◌, ℕ, List, [], IsPermutation, Some, length, map}
use Rattle.std.specs.Option.{option_map_or}
use Rattle.period_core.specs.declared.row.PeriodRow.{PeriodRow}
use Rattle.period_core.specs.declared.value.Value.{Value}
use Rattle.period_core.specs.declared.version.VersionRow.{VersionRow}
use Rattle.period_core.specs.declared.window.Window.TheVariants.{Now}
use Rattle.catalog_core.specs.table.TableWords.{table_of}
use Rattle.catalog_core.specs.declared.table.TableDef.{TableDef}
use Rattle.period_keys.specs.Current.{HaveIndexes}
use Rattle.period_keys.specs.Keys.{key_values}
use Rattle.period_keys.specs.Lawful.{key_positions}
use Rattle.period_keys.specs.Rows.{RowsByKey}
use Rattle.period_keys.specs.TableRows.{TableRows}
use Rattle.version_store.specs.Contents.{AreVersionsOf, Contents, version_in}
use Rattle.version_store.specs.GoodStore.{AreLawful, HaveTables}
use Rattle.version_store.specs.Scans.{seen_of}
use Rattle.script_engine.specs.engine.EngineState.{EngineState}

-- the rows are the current versions of the table, in any order
abbrev pub AreCurrentOf : Contents → ℕ → List VersionRow → Type 0
AreCurrentOf c table rows =
    IsPermutation (seen_of table Now c.versions) (map (version_in table) rows)

-- a catalog has the tables of the contents, and lists have their versions, table by table: what is
-- read of a store that has these contents
pub record AreReadOf (c : Contents) (tables : List TableDef) (lists : List (List VersionRow))
    : Type 0 where
  pub same : tables ≡ c.tables
  pub versions : AreVersionsOf c lists
  pub tabled : HaveTables c

-- the rows in memory of the table of a number; of a number without a table none
abbrev pub rows_in : List RowsByKey → ℕ → List VersionRow
rows_in tables number = option_map_or (λ (t : RowsByKey). t.rows) (table_of tables number) []

-- the rows' keys by the positions of the table of a number
abbrev pub AreKeysIn : List RowsByKey → ℕ → List PeriodRow → List (List Value) → Type 0
AreKeysIn tables number rows keys =
    (table : RowsByKey) → table_of tables number ≡ Some table
    → keys ≡ map (key_values table.positions) rows

-- the positions of the tables' keys among a row's values
abbrev pub keys_in : List RowsByKey → List (List ℕ)
keys_in tables = map (λ (t : RowsByKey). t.positions) tables

-- the rows in memory of each table are, by its key, its current versions; no other version is
-- current
pub record HaveCurrentRows (c : Contents) (tables : List RowsByKey) : Type 0 where
  pub keys : keys_in tables ≡ map key_positions c.tables
  pub rows : (number : ℕ) → AreCurrentOf c number (rows_in tables number)

-- the rows of a table became these, in any order, and no other table changed
pub record HaveRows (number : ℕ) (wanted : List VersionRow) (old new : List RowsByKey) : Type 0
  where
    pub keys : keys_in new ≡ keys_in old
    pub there : IsPermutation (rows_in new number) wanted
    pub others : (other : ℕ) → (other ≡ number → ⊥) → rows_in new other ≡ rows_in old other

-- the tables in memory are a catalog's, with the indexes that its references need; each
-- definition is one that CREATE gives over those before it
pub record FollowCatalog (catalog : List TableDef) (tables : List TableRows) : Type 0 where
  pub lawful : AreLawful [] catalog
  pub count : length tables ≡ length catalog
  pub indexed : HaveIndexes catalog tables

-- the memory is as it was: the catalog, the clock, of each table the current rows, in any
-- order, and the versions that have ended
pub record IsSameInMemory {S : Type 0} (old new : EngineState S) : Type 0 where
  pub catalog : new.catalog.tables ≡ old.catalog.tables
  pub clock : new.clock ≡ old.clock
  pub rows : (number : ℕ) → IsPermutation (rows_in old.tables number) (rows_in new.tables number)
  pub ended : new.ended ≡ old.ended
