use Rattle.std.proofs.Common.{subst, sym}
use Rattle.sqlite.specs.Held.{Held, state}
use Rattle.version_store.proofs.Keys.{keys_kept}
use Rattle.version_store.proofs.Opens.{good_store}
use Rattle.version_store.specs.Written.{Has}
use Rattle.script_engine.proofs.engine.connection_of.Goals as goal

pub returns-clause-good : goal.returns-clause-good
returns-clause-good g c = λ usable contents stored good.
    let held = c.close-connection.result in
    let has : Has (state g.S.Store held).now contents = subst (λ (h : Held _). Has (state g.S.Store h).now contents) (sym c.close-connection.ensures.same) stored.now in
    let keys = keys_kept (state g.S.Store held).now has.rows.schema (c.schema-live.ensures.live usable.1).0 has.rows.untied has.rows.keyed in
    good_store (state g.S.Store held).now contents has keys good
