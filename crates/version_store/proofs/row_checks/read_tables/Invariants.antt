use Rattle.std.proofs.Common.{◌≡◌, [], take, length}
use Rattle.version_store.specs.GoodStore.{AreTableRows}
use Rattle.version_store.proofs.row_checks.read_tables.Given as goal

abbrev pub invariant-loop-row : goal.invariant-loop-row
invariant-loop-row l = AreTableRows [] (take l.row-index l.rows) l.catalog.tables × (length l.catalog.tables ≡ l.row-index)
