use Rattle.std.proofs.lemmas.Result.{err_from_is_err_and}
use Rattle.sqlite.specs.Held.{state}
use Rattle.version_store.proofs.AfterCalls.{caused_by}
use Rattle.version_store.proofs.plans.remove_row.Goals as goal

pub returns-in_err-remove_version-clause-why : goal.returns-in_err-remove_version-clause-why
returns-in_err-remove_version-clause-why g c clean begun healthy records was _ =
    let p = err_from_is_err_and c.from_residual.result c.from_residual.ensures.1 in
    rw p.1 (caused_by (state g.S.Store c.args.transaction.now.conn.now) (state g.S.Store c.remove_version.new.transaction.conn.now) _ _ p.2 (c.in_err-remove_version.ensures.why clean begun healthy records was tt))
