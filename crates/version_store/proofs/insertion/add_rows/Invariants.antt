use Rattle.std.proofs.Common.{◌≡◌, ◌+◌, ◌-◌, ℕ, length, take, IsTrue}
use Rattle.sqlite.specs.State.{HasCleanDisk}
use Rattle.sqlite.specs.Held.{state}
use Rattle.version_tables.specs.Healthy.{IsHealthy}
use Rattle.version_tables.specs.Keeping.{LeavesOthers}
use Rattle.version_tables.specs.Steps.{CommitsNothing}
use Rattle.version_store.specs.Changed.{added_at}
use Rattle.version_store.specs.Contents.{Contents}
use Rattle.version_store.specs.PendingRemovals.{HasExcept}
use Rattle.version_store.proofs.insertion.add_rows.Given as goal

abbrev pub invariant-loop-row : goal.invariant-loop-row
invariant-loop-row g l =
    let old = l.fn.transaction.conn.now in
    let now = l.transaction.conn.now in
    (l.transaction.conn.ghost_name ≡ l.fn.transaction.conn.ghost_name) × CommitsNothing g.S.Store old now × LeavesOthers g.S.Store old now
    × (HasCleanDisk (state g.S.Store now) → IsTrue old.in_transaction → IsTrue now.in_transaction
    × ((c : Contents) → HasExcept (state g.S.Store old).now l.table l.moment l.fn.pending.keys c → HasExcept (state g.S.Store now).now l.table l.moment l.pending.keys (added_at l.table l.moment (take l.row-index l.rows) c)))
    × ((left : ℕ) → HasCleanDisk (state g.S.Store now) → IsTrue old.in_transaction → IsHealthy (length l.rows + left) (state g.S.Store old).now → (c : Contents) → HasExcept (state g.S.Store old).now l.table l.moment l.fn.pending.keys c
    → IsHealthy ((length l.rows - l.row-index) + left) (state g.S.Store now).now)
