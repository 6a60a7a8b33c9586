-- A table's current rows, with the positions by which they are looked up.
use Rattle.std.specs.Prelude.{◌≡◌, ℕ, Contains, IsPermutation, List, drop, map}
use Rattle.period_core.specs.declared.row.PeriodRow.{PeriodRow}
use Rattle.period_core.specs.declared.version.VersionRow.{VersionRow}
use Rattle.period_keys.specs.Keys.{key_values}
use Rattle.period_keys.specs.PeriodIndexes.{AreKeysByEach}
use Rattle.period_keys.specs.declared.table_index.TouchedKeys.{TouchedKeys}

-- the positions of the key's columns among a row's values, all rows, in some order, and the
-- positions by which the rows' periods are looked up: first those of the key, and then those of the
-- columns of references
pub record TableRows : Type 0 where
  pub positions : List ℕ
  pub rows : List VersionRow
  pub indexed : List (List ℕ)

-- the second has the same positions, and these rows, in some order
pub record HasTableRows (wanted : List VersionRow) (old new : TableRows) : Type 0 where
  pub positions : new.positions ≡ old.positions
  pub indexed : new.indexed ≡ old.indexed
  pub rows : IsPermutation new.rows wanted

-- the second has the same rows, and at least the indexes of the first
pub record HasMoreIndexes (old new : TableRows) : Type 0 where
  pub positions : new.positions ≡ old.positions
  pub rows : new.rows ≡ old.rows
  pub indexed : (positions : List ℕ)
      → Contains old.indexed positions → Contains new.indexed positions

-- the rows' keys by the table's key, and by each of the other positions
pub record AreTouchedKeys (table : TableRows) (rows : List PeriodRow) (keys : TouchedKeys)
    : Type 0 where
  pub by_key : keys.by_key.items ≡ map (key_values table.positions) rows
  pub by_each : AreKeysByEach rows (drop 1 table.indexed) keys.by_each.items
