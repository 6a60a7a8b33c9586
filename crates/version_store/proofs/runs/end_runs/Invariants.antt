use Rattle.std.proofs.Common.{◌≡◌, ◌++◌, ℕ, List, length, IsTrue}
use Rattle.period_core.specs.declared.version.VersionRow.{VersionRow}
use Rattle.sqlite.specs.Effect.{IsDatabase}
use Rattle.sqlite.specs.State.{HasCleanDisk}
use Rattle.sqlite.specs.Held.{state}
use Rattle.version_tables.specs.Healthy.{IsHealthy}
use Rattle.version_tables.specs.Keeping.{LeavesOthers}
use Rattle.version_tables.specs.Steps.{CommitsNothing}
use Rattle.version_tables.specs.declared.version_key.VersionKey.{VersionKey}
use Rattle.version_store.specs.Changed.{ended_at}
use Rattle.version_store.specs.Contents.{Contents}
use Rattle.version_store.specs.PendingRemovals.{HasExcept}
use Rattle.version_store.proofs.runs.end_runs.Given as goal

abbrev pub invariant-runs : goal.invariant-runs
invariant-runs g l =
    let old = l.fn.transaction.conn.now in
    let now = l.transaction.conn.now in
    (l.transaction.conn.ghost_name ≡ l.fn.transaction.conn.ghost_name) × CommitsNothing g.S.Store old now × LeavesOthers g.S.Store old now
    × (done : List VersionRow) × (l.rows ≡ done ++ l.rest)
    × (HasCleanDisk (state g.S.Store now) → IsTrue old.in_transaction → IsTrue now.in_transaction
    × (IsDatabase (state g.S.Store old).now → (pending : List VersionKey) (c : Contents) → HasExcept (state g.S.Store old).now l.table l.moment pending c
    → IsDatabase (state g.S.Store now).now × HasExcept (state g.S.Store now).now l.table l.moment pending (ended_at l.table l.moment done c)))
    × ((left : ℕ) → HasCleanDisk (state g.S.Store now) → IsTrue old.in_transaction → IsHealthy left (state g.S.Store old).now → (pending : List VersionKey) (c : Contents)
    → HasExcept (state g.S.Store old).now l.table l.moment pending c → IsHealthy left (state g.S.Store now).now)

abbrev pub decreases-runs : goal.decreases-runs
decreases-runs g l = length l.rest
