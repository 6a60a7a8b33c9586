use Rattle.std.proofs.Common.{◌≡◌, rules, subst, sym, w64, to_z, of_z}
use Rattle.std.proofs.lemmas.Result.{err_from_is_err_and}
use Rattle.sqlite.specs.Held.{state}
use Rattle.version_tables.specs.Moves.{AreInSeconds}
use Rattle.version_store.proofs.AfterCalls.{caused_by}
use Rattle.version_store.proofs.transactions.put_microseconds.Goals as goal

pub returns-in_err-move_to_microseconds-clause-why : goal.returns-in_err-move_to_microseconds-clause-why
returns-in_err-move_to_microseconds-clause-why g c clean begun healthy records was can =
    let n : to_z w64 (of_z w64 c.number.result) ≡ c.number.result = search rules in
    let same : to_z w64 (of_z w64 c.number.result) ≡ c.args.clock = cc (n, c.number.ensures.value) in
    let p = err_from_is_err_and c.from_residual.result c.from_residual.ensures.1 in
    rw p.1 (caused_by (state g.S.Store c.args.transaction.now.conn.now) (state g.S.Store c.move_to_microseconds.new.transaction.conn.now) _ _ p.2
    (c.in_err-move_to_microseconds.ensures.why clean begun healthy records was (subst (λ n. AreInSeconds n records) (sym same) can.0, can.1)))
