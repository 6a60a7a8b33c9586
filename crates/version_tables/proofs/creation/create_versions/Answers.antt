use Rattle.std.proofs.Common.{◌∙◌, [], ap}
use Rattle.sqlite.specs.Held.{state}
use Rattle.version_tables.specs.Making.{HasDefinitions, HasThree, with_definitions}
use Rattle.version_tables.proofs.Steps.{one_statement, turned}
use Rattle.version_tables.specs.Texts.{version_text}
use Rattle.version_tables.proofs.Makes.{versions_fail}
use Rattle.version_tables.proofs.Refusals.{why_inside}
use Rattle.version_tables.proofs.Creates.{makes_versions}
use Rattle.version_tables.proofs.creation.create_versions.Goals as goal

pub returns-clause-made : goal.returns-clause-made
returns-clause-made g c clean begun =
    let old = state g.S.Store c.args.transaction.now.conn.now in
    let new = state g.S.Store c.execute.new.self.conn.now in
    turned old new _ [] c.execute.result HasDefinitions HasThree (makes_versions old new) (c.execute.ensures.runs clean begun)

pub returns-clause-inside : goal.returns-clause-inside
returns-clause-inside g c = one_statement g.S.Store _ _ _ _ c.execute.result c.execute.ensures.ended c.execute.ensures.runs c.execute.ensures.survives

pub returns-clause-why : goal.returns-clause-why
returns-clause-why g c clean begun base empty was =
    let old = state g.S.Store c.args.transaction.now.conn.now in
    let new = state g.S.Store c.execute.new.self.conn.now in
    why_inside version_text [] old new c.execute.result (c.execute.ensures.runs clean begun) (versions_fail old new (was.schema_is ∙ ap with_definitions empty))
