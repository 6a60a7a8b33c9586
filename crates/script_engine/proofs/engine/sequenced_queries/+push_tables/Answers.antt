use Rattle.std.proofs.Common.{◌≡◌, ◌++◌, ◌∙◌, List, OnOk, append_assoc, ap, ap₂, subst, sym}
use Rattle.catalog_core.specs.declared.query.resolved.Query as code
use Rattle.catalog_core.specs.declared.query.resolved.QueryReference.{QueryReference}
use Rattle.catalog_core.specs.query.Queries.{plain_query, references_of}
use Rattle.script_engine.specs.engine.Answering.{EachSees}
use Rattle.script_engine.proofs.engine.sequenced_queries.+push_tables.Goals as goal

-- the references of a query of the program
abbrev refs : code.Query → List QueryReference
refs query = references_of (plain_query query)

pub returns-in-Select : goal.returns-in-Select
returns-in-Select t c history kept before each =
    let same : c.as_slice.result.now ≡ refs c.args.query.now = c.as_slice.ensures.value ∙ ap refs (sym c.in-Select.is) in
    subst (λ (references : List QueryReference). OnOk c.push_seen.result (EachSees history (before ++ references) c.push_seen.new.lists.items)) same (c.push_seen.ensures history kept before each)

pub returns-in_ok-push_tables-in-Combined : goal.returns-in_ok-push_tables-in-Combined
returns-in_ok-push_tables-in-Combined t c history kept before each =
    let first = c.in_ok-push_tables-in-Combined.ensures history kept before each in
    let same : (before ++ refs c.deref.result.now) ++ refs c.deref-in-Combined.result.now ≡ before ++ refs c.args.query.now =
    append_assoc before (refs c.deref.result.now) (refs c.deref-in-Combined.result.now)
    ∙ ap (λ (l : List QueryReference). before ++ l) (ap₂ (λ (a b : List QueryReference). a ++ b) (ap refs c.deref.ensures) (ap refs c.deref-in-Combined.ensures) ∙ ap refs (sym c.in-Combined.is)) in
    subst (λ (l : List QueryReference). OnOk c.push_tables-in-Combined.result (EachSees history l c.push_tables-in-Combined.new.lists.items)) same
    (c.push_tables-in-Combined.ensures history kept (before ++ refs c.deref.result.now) first)
