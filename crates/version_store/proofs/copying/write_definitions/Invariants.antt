use Rattle.std.proofs.Common.{◌≡◌, [], false, take}
use Rattle.version_store.specs.Copies.{with_tables}
use Rattle.version_store.specs.Contents.{Contents}
use Rattle.version_store.specs.Copies.{HasCommitted}
use Rattle.version_store.specs.StoreState.{IsUsable}
use Rattle.version_store.proofs.copying.write_definitions.Given as goal

abbrev pub invariant-loop-place : goal.invariant-loop-place
invariant-loop-place g l =
    (l.connection.in_transaction ≡ false) × (IsUsable g.S.Store l.connection → IsUsable g.S.Store l.fn.connection)
    × (IsUsable g.S.Store l.connection → (c : Contents) → c.tables ≡ [] → HasCommitted g.S.Store l.fn.connection c → HasCommitted g.S.Store l.connection (with_tables (take l.place l.definitions) c))
