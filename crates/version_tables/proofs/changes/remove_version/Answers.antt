use Rattle.std.proofs.Common.{◌+◌, refl, w64}
use Rattle.std.proofs.lemmas.Int.{to_z-of_z}
use Rattle.sqlite.specs.Held.{state}
use Rattle.version_tables.specs.Represents.{version}
use Rattle.version_tables.proofs.Steps.{one_statement}
use Rattle.version_tables.proofs.Removes.{key_of, remove_fails, remove_healthy, removes_inside}
use Rattle.version_tables.specs.Texts.{delete_text}
use Rattle.version_tables.proofs.Clashes.{own_of}
use Rattle.version_tables.proofs.OwnKeys.{healthy_still}
use Rattle.version_tables.proofs.Refusals.{healthy_inside, why_inside}
use Rattle.version_tables.proofs.Keeping.{statement_leaves, version_own}
use Rattle.version_tables.proofs.Texts.{delete_is}
use Rattle.version_tables.proofs.changes.remove_version.Goals as goal

pub returns-clause-made : goal.returns-clause-made
returns-clause-made g c clean begun =
    let k = version c.args.table c.args.values.now c.args.start c.args.start c.args.from c.args.from in
    removes_inside (state g.S.Store c.args.transaction.now.conn.now) (state g.S.Store c.execute.new.self.conn.now) k c.execute.result
    (rw (c.params-to_sql.ensures, c.params-to_sql-2.ensures, c.params-to_sql-3.ensures, c.params-to_sql-4.ensures, to_z-of_z w64 c.args.start c.ranges.start, to_z-of_z w64 c.args.from c.ranges.from) at (c.execute.ensures.runs clean begun)) begun

pub returns-clause-inside : goal.returns-clause-inside
returns-clause-inside g c = one_statement g.S.Store _ _ _ _ c.execute.result c.execute.ensures.ended c.execute.ensures.runs c.execute.ensures.survives

pub returns-clause-others : goal.returns-clause-others
returns-clause-others g c = statement_leaves version_own _ _ _ delete_is refl g.S.Store _ _ c.execute.result c.execute.ensures.ended c.execute.ensures.runs

pub returns-clause-why : goal.returns-clause-why
returns-clause-why g c clean begun healthy records was can =
    let old = state g.S.Store c.args.transaction.now.conn.now in
    let new = state g.S.Store c.execute.new.self.conn.now in
    let k = version c.args.table c.args.values.now c.args.start c.args.start c.args.from c.args.from in
    why_inside delete_text (key_of k) old new c.execute.result (rw (c.params-to_sql.ensures, c.params-to_sql-2.ensures, c.params-to_sql-3.ensures, c.params-to_sql-4.ensures, to_z-of_z w64 c.args.start c.ranges.start, to_z-of_z w64 c.args.from c.ranges.from) at (c.execute.ensures.runs clean begun)) (remove_fails old records was 0 healthy k (own_of old.now records was healthy.sound) new)

pub returns-clause-healthy : goal.returns-clause-healthy
returns-clause-healthy g c clean begun left healthy _ records was =
    let old = state g.S.Store c.args.transaction.now.conn.now in
    let new = state g.S.Store c.execute.new.self.conn.now in
    let k = version c.args.table c.args.values.now c.args.start c.args.start c.args.from c.args.from in
    healthy_inside delete_text (key_of k) old new c.execute.result (rw (c.params-to_sql.ensures, c.params-to_sql-2.ensures, c.params-to_sql-3.ensures, c.params-to_sql-4.ensures, to_z-of_z w64 c.args.start c.ranges.start, to_z-of_z w64 c.args.from c.ranges.from) at (c.execute.ensures.runs clean begun)) (λ n h. healthy_still left new.now (remove_healthy old records was (0 + left) healthy k new n h))
