use Rattle.std.proofs.Common.{◌≡◌, ◌++◌, ◌+◌, ◌+ℤ◌, pos, ℕ, List, length, map, IsTrue}
use Rattle.std.specs.Prelude.{IfSome}
use Rattle.sqlite.specs.State.{HasCleanDisk}
use Rattle.sqlite.specs.Held.{state}
use Rattle.version_tables.specs.declared.version_key.NewRow.{NewRow}
use Rattle.version_tables.specs.Represents.{Records, Represents, all_added, new_version}
use Rattle.version_tables.specs.Healthy.{IsHealthy, IsNextNumber}
use Rattle.version_tables.specs.Keeping.{LeavesOthers}
use Rattle.version_tables.specs.Steps.{CommitsNothing}
use Rattle.version_tables.proofs.insertion.insert_versions.Given as goal

abbrev pub invariant-batches : goal.invariant-batches
invariant-batches g l =
    let old = l.fn.transaction.conn.now in
    let now = l.transaction.conn.now in
    (l.transaction.conn.ghost_name ≡ l.fn.transaction.conn.ghost_name) × CommitsNothing g.S.Store old now × LeavesOthers g.S.Store old now
    × (done : List NewRow) × (l.rows ≡ done ++ l.rest)
    × (HasCleanDisk (state g.S.Store now) → IsTrue old.in_transaction → IsTrue now.in_transaction
    × ((records : Records) → Represents (state g.S.Store old).now records → Represents (state g.S.Store now).now (all_added (map (new_version l.table l.from l.to) done) records)))
    × ((left : ℕ) → HasCleanDisk (state g.S.Store now) → IsTrue old.in_transaction → IsHealthy (length l.rows + left) (state g.S.Store old).now → (records : Records) → Represents (state g.S.Store old).now records
    → IsHealthy (length l.rest + left) (state g.S.Store now).now × IfSome l.last (λ n. IsNextNumber (n +ℤ pos 1) (state g.S.Store now).now))

abbrev pub decreases-batches : goal.decreases-batches
decreases-batches g l = length l.rest
