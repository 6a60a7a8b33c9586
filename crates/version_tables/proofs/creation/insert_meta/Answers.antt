use Rattle.std.proofs.Common.{◌≡◌, ◌∙◌, [], ◌∷◌, ap, subst, w64}
use Rattle.std.proofs.lemmas.Int.{to_z-of_z}
use Rattle.sqlite.specs.declared.types.Value.TheVariants.{Int}
use Rattle.sqlite.specs.Held.{state}
use Rattle.version_tables.specs.Texts.{begin_text}
use Rattle.version_tables.specs.Making.{HasThree, IsBegunIn, definition_tree, meta_tree, version_tree, with_store_tables}
use Rattle.version_tables.proofs.Steps.{one_statement, turned}
use Rattle.version_tables.proofs.Creates.{begins, empty_is}
use Rattle.version_tables.proofs.Makes.{row_fails}
use Rattle.version_tables.proofs.Refusals.{why_inside}
use Rattle.version_tables.proofs.creation.insert_meta.Goals as goal

pub returns-clause-made : goal.returns-clause-made
returns-clause-made g c clean inside =
    let old = state g.S.Store c.args.transaction.now.conn.now in
    let new = state g.S.Store c.execute.new.self.conn.now in
    turned old new begin_text (Int c.args.form ∷ Int c.args.clock ∷ []) c.execute.result HasThree (IsBegunIn c.args.form c.args.clock) (begins old new c.args.form c.args.clock)
    (rw (c.params-to_sql.ensures, c.params-to_sql-2.ensures, to_z-of_z w64 c.args.form c.ranges.form, to_z-of_z w64 c.args.clock c.ranges.clock) at (c.execute.ensures.runs clean inside))

pub returns-clause-inside : goal.returns-clause-inside
returns-clause-inside g c = one_statement g.S.Store _ _ _ _ c.execute.result c.execute.ensures.ended c.execute.ensures.runs c.execute.ensures.survives

pub returns-clause-why : goal.returns-clause-why
returns-clause-why g c clean inside base empty was =
    let old = state g.S.Store c.args.transaction.now.conn.now in
    let new = state g.S.Store c.execute.new.self.conn.now in
    let meta : old.now.trees 0 ≡ [] = subst (λ s. old.now.trees (meta_tree s) ≡ []) empty was.empty.0 in
    let definitions : old.now.trees 1 ≡ [] = subst (λ s. old.now.trees (definition_tree s) ≡ []) empty was.empty.1.0 in
    let versions : old.now.trees 2 ≡ [] = subst (λ s. old.now.trees (version_tree s) ≡ []) empty was.empty.1.1.0 in
    why_inside begin_text (Int c.args.form ∷ Int c.args.clock ∷ []) old new c.execute.result
    (rw (c.params-to_sql.ensures, c.params-to_sql-2.ensures, to_z-of_z w64 c.args.form c.ranges.form, to_z-of_z w64 c.args.clock c.ranges.clock) at (c.execute.ensures.runs clean inside))
    (row_fails c.args.form c.args.clock old meta definitions versions new (was.schema_is ∙ ap with_store_tables empty ∙ empty_is))
