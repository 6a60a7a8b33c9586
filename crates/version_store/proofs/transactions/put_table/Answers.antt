use Rattle.std.proofs.lemmas.Result.{err_from_is_err_and}
use Rattle.sqlite.specs.Held.{state}
use Rattle.version_store.proofs.AfterCalls.{caused_by}
use Rattle.version_store.proofs.transactions.put_table.Goals as goal

pub returns-in_err-insert_definition-clause-why : goal.returns-in_err-insert_definition-clause-why
returns-in_err-insert_definition-clause-why g c clean begun healthy records was can =
    let p = err_from_is_err_and c.from_residual.result c.from_residual.ensures.1 in
    rw p.1 (caused_by (state g.S.Store c.args.transaction.now.conn.now) (state g.S.Store c.insert_definition.new.transaction.conn.now) _ _ p.2 (c.in_err-insert_definition.ensures.why clean begun healthy records was can))

pub returns-clause-healthy : goal.returns-clause-healthy
returns-clause-healthy g c clean begun left healthy _ records was = c.in_ok-insert_definition.ensures.healthy clean begun left healthy tt records was
