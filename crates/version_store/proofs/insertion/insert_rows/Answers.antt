use Rattle.std.proofs.Common.{◌≡◌, rules, w64, to_z, of_z}
use Rattle.std.proofs.lemmas.Result.{err_from_is_err_and}
use Rattle.sqlite.specs.Held.{state}
use Rattle.version_store.proofs.AfterCalls.{caused_by}
use Rattle.version_store.proofs.insertion.insert_rows.Goals as goal

pub returns-clause-made : goal.returns-clause-made
returns-clause-made g c clean begun =
    let f : to_z w64 (of_z w64 c.number.result) ≡ c.number.result = search rules in
    let t : to_z w64 (of_z w64 c.number-until.result) ≡ c.number-until.result = search rules in
    rw (c.from.ensures, f, t, c.number.ensures.value, c.number-until.ensures.value, c.forever.ensures) at (c.in_ok-insert_versions.ensures.made clean begun)

pub returns-in_err-insert_versions-clause-why : goal.returns-in_err-insert_versions-clause-why
returns-in_err-insert_versions-clause-why g c clean begun healthy records was can =
    let f : to_z w64 (of_z w64 c.number.result) ≡ c.number.result = search rules in
    let t : to_z w64 (of_z w64 c.number-until.result) ≡ c.number-until.result = search rules in
    let why = rw (c.from.ensures, f, t, c.number.ensures.value, c.number-until.ensures.value, c.forever.ensures) at c.in_err-insert_versions.ensures.why in
    let p = err_from_is_err_and c.from_residual.result c.from_residual.ensures.1 in
    rw p.1 (caused_by (state g.S.Store c.args.transaction.now.conn.now) (state g.S.Store c.insert_versions.new.transaction.conn.now) _ _ p.2 (why clean begun healthy records was can))
