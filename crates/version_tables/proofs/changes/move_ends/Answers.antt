use Rattle.std.proofs.Common.{◌+◌, refl, [], ◌∷◌, w64}
use Rattle.std.proofs.lemmas.Int.{to_z-of_z}
use Rattle.sqlite.specs.declared.types.Value.TheVariants.{Int}
use Rattle.sqlite.specs.Held.{state}
use Rattle.version_tables.specs.Represents.{version}
use Rattle.version_tables.proofs.Steps.{one_statement}
use Rattle.version_tables.proofs.Ends.{move_fails, move_healthy, moves_inside}
use Rattle.version_tables.specs.Texts.{move_text}
use Rattle.version_tables.proofs.Clashes.{own_of}
use Rattle.version_tables.proofs.OwnKeys.{healthy_still}
use Rattle.version_tables.proofs.Refusals.{healthy_inside, why_inside}
use Rattle.version_tables.proofs.Updates.{key_and}
use Rattle.version_tables.proofs.Keeping.{statement_leaves, version_own}
use Rattle.version_tables.proofs.Texts.{move_is}
use Rattle.version_tables.proofs.changes.move_ends.Goals as goal

pub returns-clause-made : goal.returns-clause-made
returns-clause-made g c clean begun =
    let k = version c.args.table c.args.values.now c.args.start c.args.start c.args.from c.args.from in
    moves_inside (state g.S.Store c.args.transaction.now.conn.now) (state g.S.Store c.execute.new.self.conn.now) k c.args.end c.args.to c.execute.result
    (rw (
      c.params-to_sql.ensures,
      c.params-to_sql-2.ensures,
      c.params-to_sql-3.ensures,
      c.params-to_sql-4.ensures,
      c.params-to_sql-5.ensures,
      c.params-to_sql-6.ensures,
      to_z-of_z w64 c.args.start c.ranges.start,
      to_z-of_z w64 c.args.from c.ranges.from,
      to_z-of_z w64 c.args.end c.ranges.end,
      to_z-of_z w64 c.args.to c.ranges.to,
    ) at (c.execute.ensures.runs clean begun)) begun

pub returns-clause-inside : goal.returns-clause-inside
returns-clause-inside g c = one_statement g.S.Store _ _ _ _ c.execute.result c.execute.ensures.ended c.execute.ensures.runs c.execute.ensures.survives

pub returns-clause-others : goal.returns-clause-others
returns-clause-others g c = statement_leaves version_own _ _ _ move_is refl g.S.Store _ _ c.execute.result c.execute.ensures.ended c.execute.ensures.runs

pub returns-clause-why : goal.returns-clause-why
returns-clause-why g c clean begun healthy records was can =
    let old = state g.S.Store c.args.transaction.now.conn.now in
    let new = state g.S.Store c.execute.new.self.conn.now in
    let k = version c.args.table c.args.values.now c.args.start c.args.start c.args.from c.args.from in
    why_inside move_text (key_and k (Int c.args.end ∷ Int c.args.to ∷ [])) old new c.execute.result (rw (
      c.params-to_sql.ensures,
      c.params-to_sql-2.ensures,
      c.params-to_sql-3.ensures,
      c.params-to_sql-4.ensures,
      c.params-to_sql-5.ensures,
      c.params-to_sql-6.ensures,
      to_z-of_z w64 c.args.start c.ranges.start,
      to_z-of_z w64 c.args.from c.ranges.from,
      to_z-of_z w64 c.args.end c.ranges.end,
      to_z-of_z w64 c.args.to c.ranges.to,
    ) at (c.execute.ensures.runs clean begun)) (move_fails old records was 0 healthy k c.args.end c.args.to can (own_of old.now records was healthy.sound) new)

pub returns-clause-healthy : goal.returns-clause-healthy
returns-clause-healthy g c clean begun left healthy _ records was =
    let old = state g.S.Store c.args.transaction.now.conn.now in
    let new = state g.S.Store c.execute.new.self.conn.now in
    let k = version c.args.table c.args.values.now c.args.start c.args.start c.args.from c.args.from in
    healthy_inside move_text (key_and k (Int c.args.end ∷ Int c.args.to ∷ [])) old new c.execute.result (rw (
      c.params-to_sql.ensures,
      c.params-to_sql-2.ensures,
      c.params-to_sql-3.ensures,
      c.params-to_sql-4.ensures,
      c.params-to_sql-5.ensures,
      c.params-to_sql-6.ensures,
      to_z-of_z w64 c.args.start c.ranges.start,
      to_z-of_z w64 c.args.from c.ranges.from,
      to_z-of_z w64 c.args.end c.ranges.end,
      to_z-of_z w64 c.args.to c.ranges.to,
    ) at (c.execute.ensures.runs clean begun)) (λ n h. healthy_still left new.now (move_healthy old records was (0 + left) healthy k c.args.end c.args.to new n h))
