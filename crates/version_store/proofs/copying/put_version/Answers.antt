use Rattle.std.proofs.Common.{◌≡◌, rules, subst, w64, to_z, of_z}
use Rattle.sqlite.specs.Held.{state}
use Rattle.version_tables.specs.Represents.{Represents, all_added}
use Rattle.version_store.proofs.Copies.{row_put, version_put}
use Rattle.version_store.proofs.copying.put_version.Goals as goal

pub returns-clause-made : goal.returns-clause-made
returns-clause-made g c clean begun =
    let old = (state g.S.Store c.args.transaction.now.conn.now).now in
    let now = (state g.S.Store c.insert_versions.new.transaction.conn.now).now in
    let f : to_z w64 (of_z w64 c.number-from.result) ≡ c.number-from.result = search rules in
    let t : to_z w64 (of_z w64 c.number-to.result) ≡ c.number-to.result = search rules in
    let made = rw (f, t, c.number-from.ensures.value, c.number-to.ensures.value) at (c.in_ok-insert_versions.ensures.made clean begun) in
    let same = row_put c.args.table c.from-table.result c.args.row.now c.in_ok-new.new c.from_ref.result.now c.from-table.ensures c.from_ref.ensures.value c.in_ok-new.ensures.bytes c.in_ok-new.ensures.start c.in_ok-new.ensures.end in
    (made.0, λ m has. version_put old now c.args.table c.args.row.now c.in_ok-new.ensures.held m has (λ r was. subst (λ vs. Represents now (all_added vs r)) same (made.1 r was)))
