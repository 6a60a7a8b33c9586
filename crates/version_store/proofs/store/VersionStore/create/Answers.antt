use Rattle.std.proofs.Common.{ap, refl, subst, sym}
use Rattle.sqlite.specs.Does.{lacks_sequence}
use Rattle.sqlite.specs.Held.{state}
use Rattle.version_tables.specs.Presence.{HasNoStoreTable}
use Rattle.version_tables.proofs.Creates.{begun_healthy}
use Rattle.version_store.proofs.AfterCalls.{failed_by}
use Rattle.version_store.proofs.store.VersionStore.create.Goals as goal

pub returns-in-Ok-clause-healthy : goal.returns-in-Ok-clause-healthy
returns-in-Ok-clause-healthy g c usable empty count few =
    let old = (state g.S.Store c.args.connection).now in
    let new = (state g.S.Store c.create.new.connection).now in
    let none = subst HasNoStoreTable (sym empty) (record { meta = refl; table = refl; version = refl }) in
    let made = c.in-Ok.ensures.beside usable.0 none (ap lacks_sequence empty) in
    begun_healthy _ _ old new empty made.0 (c.schema-live.ensures.live usable.1).0 count few

pub returns-in-Err-clause-why : goal.returns-in-Err-clause-why
returns-in-Err-clause-why g c = λ usable empty.
    failed_by g.S.Store c.args.connection c.create.new.connection c.in-Err.error _ c.refusal_of.ensures.memory (c.in-Err.ensures.why usable.0 empty) (c.create.ensures.was_usable usable.0 usable.1).1
