use Rattle.std.proofs.Common.{◌≡◌, ◌+◌, ◌∷◌, [], rules, w64, to_z, of_z, refl}
use Rattle.period_core.specs.Moments.{forever}
use Rattle.period_core.specs.Seconds.{last_second}
use Rattle.sqlite.specs.declared.types.Value.TheVariants.{Int}
use Rattle.sqlite.specs.Held.{state}
use Rattle.version_tables.proofs.Steps.{one_statement}
use Rattle.version_tables.specs.Texts.{microseconds_text}
use Rattle.version_tables.proofs.Moves.{moves_versions_inside, versions_fail, versions_healthy}
use Rattle.version_tables.proofs.OwnKeys.{healthy_still}
use Rattle.version_tables.proofs.Refusals.{healthy_inside, why_inside}
use Rattle.version_tables.proofs.Keeping.{statement_leaves, version_own}
use Rattle.version_tables.proofs.Texts.{microseconds_is}
use Rattle.version_tables.proofs.migration.move_versions.Goals as goal

pub returns-clause-made : goal.returns-clause-made
returns-clause-made g c clean begun =
    let a : to_z w64 (of_z w64 c.open_end-open_end.result) ≡ c.open_end-open_end.result = search rules in
    let b : to_z w64 (of_z w64 c.open_end-forever.result) ≡ c.open_end-forever.result = search rules in
    moves_versions_inside (state g.S.Store c.args.transaction.now.conn.now) (state g.S.Store c.execute.new.self.conn.now) c.execute.result
    (rw (c.params-to_sql.ensures, c.params-to_sql-2.ensures, a, b, c.open_end-open_end.ensures, c.open_end-forever.ensures) at (c.execute.ensures.runs clean begun))

pub returns-clause-inside : goal.returns-clause-inside
returns-clause-inside g c = one_statement g.S.Store _ _ _ _ c.execute.result c.execute.ensures.ended c.execute.ensures.runs c.execute.ensures.survives

pub returns-clause-others : goal.returns-clause-others
returns-clause-others g c = statement_leaves version_own _ _ _ microseconds_is refl g.S.Store _ _ c.execute.result c.execute.ensures.ended c.execute.ensures.runs

pub returns-clause-why : goal.returns-clause-why
returns-clause-why g c clean begun healthy records was can =
    let old = state g.S.Store c.args.transaction.now.conn.now in
    let new = state g.S.Store c.execute.new.self.conn.now in
    let a : to_z w64 (of_z w64 c.open_end-open_end.result) ≡ c.open_end-open_end.result = search rules in
    let b : to_z w64 (of_z w64 c.open_end-forever.result) ≡ c.open_end-forever.result = search rules in
    why_inside microseconds_text (Int last_second ∷ Int forever ∷ []) old new c.execute.result
    (rw (c.params-to_sql.ensures, c.params-to_sql-2.ensures, a, b, c.open_end-open_end.ensures, c.open_end-forever.ensures) at (c.execute.ensures.runs clean begun)) (versions_fail old records was 0 healthy can.0 can.1 new)

pub returns-clause-healthy : goal.returns-clause-healthy
returns-clause-healthy g c clean begun left healthy _ records was =
    let old = state g.S.Store c.args.transaction.now.conn.now in
    let new = state g.S.Store c.execute.new.self.conn.now in
    let a : to_z w64 (of_z w64 c.open_end-open_end.result) ≡ c.open_end-open_end.result = search rules in
    let b : to_z w64 (of_z w64 c.open_end-forever.result) ≡ c.open_end-forever.result = search rules in
    healthy_inside microseconds_text (Int last_second ∷ Int forever ∷ []) old new c.execute.result
    (rw (c.params-to_sql.ensures, c.params-to_sql-2.ensures, a, b, c.open_end-open_end.ensures, c.open_end-forever.ensures) at (c.execute.ensures.runs clean begun)) (λ n h. healthy_still left new.now (versions_healthy old records was (0 + left) healthy new n h))
