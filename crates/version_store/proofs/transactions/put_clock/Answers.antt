use Rattle.std.proofs.Common.{◌≡◌, rules, w64, to_z, of_z}
use Rattle.sqlite.specs.Held.{state}
use Rattle.std.proofs.lemmas.Result.{err_from_is_err_and}
use Rattle.version_store.proofs.AfterCalls.{caused_by}
use Rattle.version_store.proofs.Sweeps.{clock_moved}
use Rattle.version_store.proofs.transactions.put_clock.Goals as goal

pub returns-clause-made : goal.returns-clause-made
returns-clause-made g c clean begun =
    let old = (state g.S.Store c.args.transaction.now.conn.now).now in
    let new = (state g.S.Store c.set_clock.new.transaction.conn.now).now in
    let it = c.in_ok-set_clock.ensures.made clean begun in
    let n : to_z w64 (of_z w64 c.number.result) ≡ c.number.result = search rules in
    let same : to_z w64 (of_z w64 c.number.result) ≡ c.args.moment = cc (n, c.number.ensures.value) in
    (it.0, clock_moved old new c.args.moment _ same it.1)

pub returns-in_err-set_clock-clause-why : goal.returns-in_err-set_clock-clause-why
returns-in_err-set_clock-clause-why g c clean begun healthy records was _ =
    let p = err_from_is_err_and c.from_residual.result c.from_residual.ensures.1 in
    rw p.1 (caused_by (state g.S.Store c.args.transaction.now.conn.now) (state g.S.Store c.set_clock.new.transaction.conn.now) _ _ p.2 (c.in_err-set_clock.ensures.why clean begun healthy records was tt))

pub returns-clause-healthy : goal.returns-clause-healthy
returns-clause-healthy g c clean begun left healthy _ records was = c.in_ok-set_clock.ensures.healthy clean begun left healthy tt records was
