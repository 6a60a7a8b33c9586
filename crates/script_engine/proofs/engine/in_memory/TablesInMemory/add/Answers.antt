use Rattle.std.proofs.Common.{◌++◌, ◌∷◌, [], ◌∙◌, List, ap, length, subst, sym}
use Rattle.catalog_core.specs.declared.table.TableDef.{TableDef}
use Rattle.period_keys.specs.Lawful.{key_positions}
use Rattle.period_keys.specs.TableRows.{TableRows}
use Rattle.script_engine.specs.engine.InMemory.{FollowCatalog}
use Rattle.script_engine.specs.engine.TablesState.{TablesState}
use Rattle.script_engine.proofs.Indexed.{follow_created, follow_more, same_rows_of}
use Rattle.script_engine.proofs.LastState.{lawful_more, earlier_of}
use Rattle.script_engine.proofs.engine.in_memory.TablesInMemory.add.Goals as goal

pub add_table-requires-clause-there : goal.add_table-requires-clause-there
add_table-requires-clause-there c = ap (λ (t : TablesState). length t.current) c.self.view_is ∙ c.requires.follow.count

pub add_table-requires-clause-earlier : goal.add_table-requires-clause-earlier
add_table-requires-clause-earlier c =
    earlier_of (c.args.catalog.now.tables ++ c.args.definition.now ∷ []) (lawful_more [] c.args.catalog.now.tables c.args.definition.now c.requires.follow.lawful c.requires.lawful)

pub returns-in-Ok-clause-follow : goal.returns-in-Ok-clause-follow
returns-in-Ok-clause-follow c =
    let catalog : List TableDef = c.args.catalog.now.tables in
    let definition : TableDef = c.args.definition.now in
    let old : List TableRows = c.self.inside.current.items in
    let was : FollowCatalog catalog old = subst (λ (t : TablesState). FollowCatalog catalog t.current) (sym c.self.view_is) c.requires.follow in
    follow_created catalog definition old c.add_table.new.tables.items (key_positions definition) was c.requires.lawful c.in-Ok.ensures.rows (c.in-Ok.ensures.indexed was.indexed)

pub returns-in-Err-clause-none : goal.returns-in-Err-clause-none
returns-in-Err-clause-none c =
    let catalog : List TableDef = c.args.catalog.now.tables in
    let old : List TableRows = c.self.inside.current.items in
    let new : List TableRows = c.add_table.new.tables.items in
    let was : FollowCatalog catalog old = subst (λ (t : TablesState). FollowCatalog catalog t.current) (sym c.self.view_is) c.requires.follow in
    rw (← c.self.view_is) (same_rows_of old new c.in-Err.ensures.err, follow_more catalog old new c.in-Err.ensures.err was)
