use Rattle.std.proofs.Common.{◌≡◌, ◌∙◌, ◌++◌, IfOk, List, Some, ap, subst, sym}
use Rattle.catalog_core.proofs.lemmas.table.Named.{table_named}
use Rattle.statement_resolution.proofs.lemmas.query.ColumnLists.{front_none, not_there}
use Rattle.statement_resolution.specs.query.Scopes.{SeenColumn, declared_columns}
use Rattle.catalog_core.specs.table.Naming.{Name, known_name}
use Rattle.statement_resolution.proofs.query.seen_column.push_columns.Goals as goal

pub returns-in_default : goal.returns-in_default
returns-in_default c =
    let known = known_name c.args.reference.now in
    let old = c.args.columns.now.items in
    front_none known old
    ∙ ap (λ found. old ++ declared_columns known found) (sym (not_there c.args.catalog.now.tables c.args.reference.now.table c.in_default.ensures))

pub returns : goal.returns
returns c =
    let t = c.in-Some.table.now in
    let r = c.args.reference.now in
    let same =
    ap (λ (known : Name). declared_columns known (Some t)) c.known_name.ensures
    ∙ ap (λ found. declared_columns (known_name r) found) (sym (table_named c.args.catalog.now.tables r.table c.in-Some.field-0-0 t c.in-Some.ensures.0 c.in-Some.ensures.1)) in
    subst (λ (cs : List SeenColumn). IfOk c.push_declared.result (λ _. c.push_declared.new.columns.items ≡ c.args.columns.now.items ++ cs)) same c.push_declared.ensures
