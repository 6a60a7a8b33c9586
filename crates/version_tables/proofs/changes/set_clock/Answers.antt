use Rattle.std.proofs.Common.{◌+◌, refl, [], ◌∷◌, w64}
use Rattle.std.proofs.lemmas.Int.{to_z-of_z}
use Rattle.sqlite.specs.declared.types.Value.TheVariants.{Int}
use Rattle.sqlite.specs.Held.{state}
use Rattle.version_tables.proofs.Steps.{one_statement}
use Rattle.version_tables.proofs.Clocks.{clock_fails, clock_healthy, sets_inside}
use Rattle.version_tables.specs.Texts.{clock_text}
use Rattle.version_tables.proofs.OwnKeys.{healthy_still}
use Rattle.version_tables.proofs.Refusals.{healthy_inside, why_inside}
use Rattle.version_tables.proofs.Keeping.{statement_leaves, meta_own}
use Rattle.version_tables.proofs.Texts.{clock_is}
use Rattle.version_tables.proofs.changes.set_clock.Goals as goal

pub returns-clause-made : goal.returns-clause-made
returns-clause-made g c clean begun =
    sets_inside (state g.S.Store c.args.transaction.now.conn.now) (state g.S.Store c.execute.new.self.conn.now) c.args.clock c.execute.result
    (rw (c.params-to_sql.ensures, to_z-of_z w64 c.args.clock c.ranges.clock) at (c.execute.ensures.runs clean begun))

pub returns-clause-inside : goal.returns-clause-inside
returns-clause-inside g c = one_statement g.S.Store _ _ _ _ c.execute.result c.execute.ensures.ended c.execute.ensures.runs c.execute.ensures.survives

pub returns-clause-others : goal.returns-clause-others
returns-clause-others g c = statement_leaves meta_own _ _ _ clock_is refl g.S.Store _ _ c.execute.result c.execute.ensures.ended c.execute.ensures.runs

pub returns-clause-why : goal.returns-clause-why
returns-clause-why g c clean begun healthy records was can =
    let old = state g.S.Store c.args.transaction.now.conn.now in
    let new = state g.S.Store c.execute.new.self.conn.now in
    why_inside clock_text (Int c.args.clock ∷ []) old new c.execute.result (rw (c.params-to_sql.ensures, to_z-of_z w64 c.args.clock c.ranges.clock) at (c.execute.ensures.runs clean begun)) (clock_fails c.args.clock old records was 0 healthy new)

pub returns-clause-healthy : goal.returns-clause-healthy
returns-clause-healthy g c clean begun left healthy _ records was =
    let old = state g.S.Store c.args.transaction.now.conn.now in
    let new = state g.S.Store c.execute.new.self.conn.now in
    healthy_inside clock_text (Int c.args.clock ∷ []) old new c.execute.result (rw (c.params-to_sql.ensures, to_z-of_z w64 c.args.clock c.ranges.clock) at (c.execute.ensures.runs clean begun)) (λ n h. healthy_still left new.now (clock_healthy c.args.clock old records was (0 + left) healthy new n h))
