use Rattle.std.proofs.Common.{◌≡◌, false}
use Rattle.version_store.specs.Contents.{Contents}
use Rattle.version_store.specs.Copies.{HasCommitted, up_to}
use Rattle.version_store.specs.GoodStore.{HaveTables}
use Rattle.version_store.specs.StoreState.{IsOnlyRead, IsUsable, StoreRepresents}
use Rattle.version_store.proofs.store.VersionStore.copy_into.Given as goal

abbrev pub invariant-loop-place : goal.invariant-loop-place
invariant-loop-place g l =
    (l.copy.in_transaction ≡ false) × (IsUsable g.T.Store l.copy → IsUsable g.T.Store l.fn.copy)
    × IsOnlyRead g.S.Store l.fn.self l.self
    × (IsUsable g.S.Store l.self.connection → (c : Contents) → StoreRepresents g.S.Store l.fn.self c → StoreRepresents g.S.Store l.self c)
    × (IsUsable g.S.Store l.self.connection → IsUsable g.T.Store l.copy → (c : Contents) → HaveTables c → StoreRepresents g.S.Store l.fn.self c → HasCommitted g.T.Store l.copy (up_to l.place c))
