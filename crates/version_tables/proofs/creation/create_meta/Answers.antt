use Rattle.std.proofs.Common.{◌∙◌, []}
use Rattle.sqlite.specs.Held.{state}
use Rattle.version_tables.specs.Making.{HasMeta, HasNone}
use Rattle.version_tables.proofs.Steps.{one_statement, turned}
use Rattle.version_tables.specs.Texts.{meta_text}
use Rattle.version_tables.proofs.Makes.{meta_fails}
use Rattle.version_tables.proofs.Refusals.{why_inside}
use Rattle.version_tables.proofs.Creates.{makes_meta}
use Rattle.version_tables.proofs.creation.create_meta.Goals as goal

pub returns-clause-made : goal.returns-clause-made
returns-clause-made g c clean begun =
    let old = state g.S.Store c.args.transaction.now.conn.now in
    let new = state g.S.Store c.execute.new.self.conn.now in
    turned old new _ [] c.execute.result HasNone HasMeta (makes_meta old new) (c.execute.ensures.runs clean begun)

pub returns-clause-inside : goal.returns-clause-inside
returns-clause-inside g c = one_statement g.S.Store _ _ _ _ c.execute.result c.execute.ensures.ended c.execute.ensures.runs c.execute.ensures.survives

pub returns-clause-why : goal.returns-clause-why
returns-clause-why g c clean begun base empty was =
    let old = state g.S.Store c.args.transaction.now.conn.now in
    let new = state g.S.Store c.execute.new.self.conn.now in
    why_inside meta_text [] old new c.execute.result (c.execute.ensures.runs clean begun) (meta_fails old new (was.schema_is ∙ empty))
