use Rattle.std.proofs.Common.{◌∙◌, [], subst, sym}
use Rattle.catalog_core.specs.query.Queries.{plain_query, references_of}
use Rattle.script_engine.specs.engine.Answering.{EachSees}
use Rattle.script_engine.proofs.engine.sequenced_queries.tables_of.Goals as goal

pub returns : goal.returns
returns c history kept =
    let references = references_of (plain_query c.args.query.now) in
    let none : EachSees history [] c.new-lists.result.items = subst (EachSees history []) (sym c.new-lists.ensures.items) tt in
    subst (EachSees history references) (sym (c.new.ensures ∙ c.from_vec.ensures)) (c.in_ok-push_tables.ensures history kept [] none)
