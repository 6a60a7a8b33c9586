use Rattle.std.proofs.Common.{◌≡◌, map, rules, subst₂, sym, w64, to_z, of_z}
use Rattle.std.proofs.lemmas.Result.{err_from_is_err_and}
use Rattle.sqlite.specs.Held.{state}
use Rattle.version_tables.specs.Healthy.{AreShort}
use Rattle.version_tables.specs.Runs.{recorded}
use Rattle.version_tables.specs.declared.version_key.RecordedKey.{RecordedKey}
use Rattle.std.proofs.Common.{List, ℕ}
use Rattle.version_store.specs.Runs.{AreKeysOf}
use Rattle.version_store.proofs.AfterCalls.{caused_by}
use Rattle.version_store.proofs.Together.{keys_short, rows_ended}
use Rattle.version_store.proofs.runs.end_run.Goals as goal

pub returns-in_err-end_together-clause-why : goal.returns-in_err-end_together-clause-why
returns-in_err-end_together-clause-why g c pending clean begun healthy d was short =
    let p = err_from_is_err_and c.from_residual-in_err-end_together.result c.from_residual-in_err-end_together.ensures.1 in
    let are : AreKeysOf c.args.moment c.args.rows.now c.in-Some.keys.items = rw c.in-Some.is at c.in_ok-keys.ensures.keys in
    let table : c.from.result ≡ c.args.table = cc c.from.ensures in
    let all = subst₂ (λ (t : ℕ) (ks : List RecordedKey). AreShort (map (recorded t) ks)) (sym table) (sym c.as_slice.ensures.value) (keys_short c.args.table c.args.moment c.args.rows.now c.in-Some.keys.items are short) in
    rw p.1 (caused_by (state g.S.Store c.args.transaction.now.conn.now) (state g.S.Store c.end_together.new.transaction.conn.now) _ _ p.2 (c.in_err-end_together.ensures.why clean begun healthy _ was.rows all))

pub returns-clause-made : goal.returns-clause-made
returns-clause-made g c pending clean begun =
    let old = state g.S.Store c.args.transaction.now.conn.now in
    let new = state g.S.Store c.end_together.new.transaction.conn.now in
    let t : to_z w64 (of_z w64 c.number.result) ≡ c.number.result = search rules in
    let are : AreKeysOf c.args.moment c.args.rows.now c.in-Some.keys.items = rw c.in-Some.is at c.in_ok-keys.ensures.keys in
    let it = rw (c.from.ensures, c.as_slice.ensures.value, t, c.number.ensures.value) at (c.in_ok-end_together.ensures.made clean begun) in
    (it.0, λ sound d was. rows_ended c.args.table c.args.moment c.args.rows.now c.in-Some.keys.items are old.now new.now c.in_ok-end_together.field-0 pending d was (it.1 sound))

pub returns-clause-healthy : goal.returns-clause-healthy
returns-clause-healthy g c pending clean begun left healthy d was = c.in_ok-end_together.ensures.healthy clean begun left healthy tt _ was.rows
