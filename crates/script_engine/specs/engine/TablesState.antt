-- The state of the tables in memory.
use Rattle.std.specs.Prelude.{List}
use Rattle.ended_versions.specs.Packed.{PackedVersion}
use Rattle.period_keys.specs.TableRows.{TableRows}

-- in the order of the catalog, the current rows of each table, with the positions by which they are
-- looked up, and its versions that have ended
pub record TablesState : Type 0 where
  pub current : List TableRows
  pub ended : List (List PackedVersion)
