use Rattle.std.proofs.Common.{◌≡◌, ◌+◌, ◌∷◌, [], rules, w64, to_z, of_z, refl}
use Rattle.sqlite.specs.declared.types.Value.TheVariants.{Int}
use Rattle.std.proofs.lemmas.Int.{to_z-of_z}
use Rattle.sqlite.specs.Held.{state}
use Rattle.version_tables.specs.Forms.{form_number}
use Rattle.version_tables.proofs.Steps.{one_statement}
use Rattle.version_tables.specs.Texts.{form_text}
use Rattle.version_tables.proofs.Clocks.{form_fails, form_healthy, sets_form_inside}
use Rattle.version_tables.proofs.OwnKeys.{healthy_still}
use Rattle.version_tables.proofs.Refusals.{healthy_inside, why_inside}
use Rattle.version_tables.proofs.Keeping.{statement_leaves, meta_own}
use Rattle.version_tables.proofs.Texts.{form_is}
use Rattle.version_tables.proofs.migration.set_form.Goals as goal

pub returns-clause-made : goal.returns-clause-made
returns-clause-made g c clean begun =
    let n : to_z w64 (of_z w64 c.number-number.result) ≡ c.number-number.result = search rules in
    sets_form_inside (state g.S.Store c.args.transaction.now.conn.now) (state g.S.Store c.execute.new.self.conn.now) (form_number c.args.form) c.args.clock c.execute.result
    (rw (c.params-to_sql.ensures, c.params-to_sql-2.ensures, n, c.number-number.ensures, to_z-of_z w64 c.args.clock c.ranges.clock) at (c.execute.ensures.runs clean begun))

pub returns-clause-inside : goal.returns-clause-inside
returns-clause-inside g c = one_statement g.S.Store _ _ _ _ c.execute.result c.execute.ensures.ended c.execute.ensures.runs c.execute.ensures.survives

pub returns-clause-others : goal.returns-clause-others
returns-clause-others g c = statement_leaves meta_own _ _ _ form_is refl g.S.Store _ _ c.execute.result c.execute.ensures.ended c.execute.ensures.runs

pub returns-clause-why : goal.returns-clause-why
returns-clause-why g c clean begun healthy records was _ =
    let old = state g.S.Store c.args.transaction.now.conn.now in
    let new = state g.S.Store c.execute.new.self.conn.now in
    let n : to_z w64 (of_z w64 c.number-number.result) ≡ c.number-number.result = search rules in
    why_inside form_text (Int (form_number c.args.form) ∷ Int c.args.clock ∷ []) old new c.execute.result
    (rw (c.params-to_sql.ensures, c.params-to_sql-2.ensures, n, c.number-number.ensures, to_z-of_z w64 c.args.clock c.ranges.clock) at (c.execute.ensures.runs clean begun)) (form_fails c.args.clock old records was 0 healthy (form_number c.args.form) new)

pub returns-clause-healthy : goal.returns-clause-healthy
returns-clause-healthy g c clean begun left healthy _ records was =
    let old = state g.S.Store c.args.transaction.now.conn.now in
    let new = state g.S.Store c.execute.new.self.conn.now in
    let n : to_z w64 (of_z w64 c.number-number.result) ≡ c.number-number.result = search rules in
    healthy_inside form_text (Int (form_number c.args.form) ∷ Int c.args.clock ∷ []) old new c.execute.result
    (rw (c.params-to_sql.ensures, c.params-to_sql-2.ensures, n, c.number-number.ensures, to_z-of_z w64 c.args.clock c.ranges.clock) at (c.execute.ensures.runs clean begun))
    (λ n h. healthy_still left new.now (form_healthy c.args.clock old records was (0 + left) healthy (form_number c.args.form) new n h))
