use Rattle.std.proofs.Common.{◌∙◌, ◌++◌, ◌∷◌, List, ap, map, take_all}
use Rattle.std.proofs.lemmas.List.{map_push}
use Rattle.sql_statements.specs.declared.statement.Join.{Join}
use Rattle.statement_resolution.proofs.lemmas.query.ReferenceLists.{Borrowed, join_tables, tables_step}
use Rattle.statement_resolution.proofs.query.references.push_chain.Goals as goal

pub loop-join-init : goal.loop-join-init
loop-join-init c =
    let f = λ (r : Borrowed). r.now in
    ap (map f) c.in_ok-push.ensures.items ∙ map_push f c.args.references.now.items _

pub loop-join-preserved : goal.loop-join-preserved
loop-join-preserved c =
    let f = λ (r : Borrowed). r.now in
    tables_step c.as_slice-join-items.result.now c.loop-join.join-index c.join-item.result (map f c.args.references.now.items) (map f c.loop-join.references.items) (map f c.push-in-loop-join.new.self.items) c.args.chain.now.first
    c.loop-join-test.true c.join-item.is c.loop-join.invariant (ap (map f) c.in_ok-push-2.ensures.items ∙ map_push f c.loop-join.references.items _)

pub returns : goal.returns
returns c =
    let f = λ (r : Borrowed). r.now in
    c.loop-join.invariant
    ∙ ap (λ (js : List Join). map f c.args.references.now.items ++ c.args.chain.now.first ∷ join_tables js)
    (take_all c.loop-join.join-index c.as_slice-join-items.result.now c.loop-join-test.false ∙ c.as_slice-join-items.ensures)
