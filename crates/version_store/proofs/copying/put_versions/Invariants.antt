use Rattle.std.proofs.Common.{◌≡◌, IsTrue, take}
use Rattle.sqlite.specs.State.{HasCleanDisk}
use Rattle.sqlite.specs.Held.{state}
use Rattle.version_tables.specs.Steps.{CommitsNothing}
use Rattle.version_store.specs.Copies.{with_versions}
use Rattle.version_store.specs.Contents.{Contents}
use Rattle.version_store.specs.Written.{Has}
use Rattle.version_store.proofs.copying.put_versions.Given as goal

abbrev pub invariant-loop-row : goal.invariant-loop-row
invariant-loop-row g l =
    let old = l.fn.transaction.conn.now in
    let now = l.transaction.conn.now in
    (l.transaction.conn.ghost_name ≡ l.fn.transaction.conn.ghost_name) × CommitsNothing g.S.Store old now
    × (HasCleanDisk (state g.S.Store now) → IsTrue old.in_transaction → IsTrue now.in_transaction
    × ((c : Contents) → Has (state g.S.Store old).now c → Has (state g.S.Store now).now (with_versions l.table (take l.row-index l.rows) c)))
