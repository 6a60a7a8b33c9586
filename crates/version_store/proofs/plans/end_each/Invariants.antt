use Rattle.std.proofs.Common.{◌≡◌, ℕ, take, IsTrue}
use Rattle.sqlite.specs.State.{HasCleanDisk}
use Rattle.sqlite.specs.Held.{state}
use Rattle.version_tables.specs.Healthy.{IsHealthy}
use Rattle.version_tables.specs.Keeping.{LeavesOthers}
use Rattle.version_tables.specs.Steps.{CommitsNothing}
use Rattle.version_store.specs.Changed.{ended_at}
use Rattle.version_store.specs.Contents.{Contents}
use Rattle.version_store.specs.PendingRemovals.{HasExcept}
use Rattle.version_store.proofs.plans.end_each.Given as goal

abbrev pub invariant-loop-row : goal.invariant-loop-row
invariant-loop-row g l =
    let old = l.fn.transaction.conn.now in
    let now = l.transaction.conn.now in
    (l.transaction.conn.ghost_name ≡ l.fn.transaction.conn.ghost_name) × CommitsNothing g.S.Store old now × LeavesOthers g.S.Store old now
    × (HasCleanDisk (state g.S.Store now) → IsTrue old.in_transaction → IsTrue now.in_transaction
    × ((c : Contents) → HasExcept (state g.S.Store old).now l.table l.moment l.fn.pending.keys c → HasExcept (state g.S.Store now).now l.table l.moment l.pending.keys (ended_at l.table l.moment (take l.row-index l.rows) c)))
    × ((left : ℕ) → HasCleanDisk (state g.S.Store now) → IsTrue old.in_transaction → IsHealthy left (state g.S.Store old).now → (c : Contents) → HasExcept (state g.S.Store old).now l.table l.moment l.fn.pending.keys c → IsHealthy left (state g.S.Store now).now)
