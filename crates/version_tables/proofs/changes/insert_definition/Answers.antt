use Rattle.std.proofs.Common.{◌+◌, refl, [], ◌∷◌, pos, rules}
use Rattle.sqlite.specs.declared.types.Value.TheVariants.{Blob, Int}
use Rattle.sqlite.specs.Held.{state}
use Rattle.version_tables.proofs.Steps.{one_statement}
use Rattle.version_tables.proofs.Defines.{define_fails, define_healthy, defines_inside}
use Rattle.version_tables.specs.Texts.{define_text}
use Rattle.version_tables.proofs.OwnKeys.{healthy_still}
use Rattle.version_tables.proofs.Refusals.{healthy_inside, why_inside}
use Rattle.version_tables.proofs.Keeping.{statement_leaves, definition_own}
use Rattle.version_tables.proofs.Texts.{define_is}
use Rattle.version_tables.proofs.changes.insert_definition.Goals as goal

pub returns-clause-made : goal.returns-clause-made
returns-clause-made g c clean begun =
    defines_inside (state g.S.Store c.args.transaction.now.conn.now) (state g.S.Store c.execute.new.self.conn.now) c.args.id c.args.definition.now c.execute.result
    (rw (c.params-to_sql.ensures, c.params-to_sql-2.ensures) at (c.execute.ensures.runs clean begun))

pub returns-clause-inside : goal.returns-clause-inside
returns-clause-inside g c = one_statement g.S.Store _ _ _ _ c.execute.result c.execute.ensures.ended c.execute.ensures.runs c.execute.ensures.survives

pub returns-clause-others : goal.returns-clause-others
returns-clause-others g c = statement_leaves definition_own _ _ _ define_is refl g.S.Store _ _ c.execute.result c.execute.ensures.ended c.execute.ensures.runs

pub returns-clause-why : goal.returns-clause-why
returns-clause-why g c clean begun healthy records was can =
    let old = state g.S.Store c.args.transaction.now.conn.now in
    let new = state g.S.Store c.execute.new.self.conn.now in
    why_inside define_text (Int (pos c.args.id) ∷ Blob c.args.definition.now ∷ []) old new c.execute.result (rw (c.params-to_sql.ensures, c.params-to_sql-2.ensures) at (c.execute.ensures.runs clean begun)) (define_fails c.args.id c.args.definition.now old records was 0 healthy can.0 (search rules) can.1 new)

pub returns-clause-healthy : goal.returns-clause-healthy
returns-clause-healthy g c clean begun left healthy _ records was =
    let old = state g.S.Store c.args.transaction.now.conn.now in
    let new = state g.S.Store c.execute.new.self.conn.now in
    healthy_inside define_text (Int (pos c.args.id) ∷ Blob c.args.definition.now ∷ []) old new c.execute.result (rw (c.params-to_sql.ensures, c.params-to_sql-2.ensures) at (c.execute.ensures.runs clean begun)) (λ n h. healthy_still left new.now (define_healthy c.args.id c.args.definition.now old records was (0 + left) healthy new n h))
