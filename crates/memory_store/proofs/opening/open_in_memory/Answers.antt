use Rattle.std.proofs.Common.{◌∙◌, ap, arith, refl, sym, true, true≢false}
use Rattle.sqlite_trees.specs.Objects.{catalog_tree}
use Rattle.sqlite_trees.specs.Tree.{Trees}
use Rattle.sqlite_trees.proofs.Doubt.{no_doubt}
use Rattle.memory_store.proofs.Opened.{fails_for_memory, lists_none}
use Rattle.memory_store.proofs.opening.open_in_memory.Goals as goal

pub prove-unreachable-requires : goal.prove-unreachable-requires
prove-unreachable-requires c =
    let told = fails_for_memory _ _ c.in-Err.error c.new.ensures.empty (λ more. omega arith) (c.in-Err.ensures.err (no_doubt true refl)) in
    true≢false (sym (c.is_out_of_memory.ensures told) ∙ c.if-prove.true)

pub returns-in-Ok-clause-empty : goal.returns-in-Ok-clause-empty
returns-in-Ok-clause-empty c =
    let opened = c.in-Ok.ensures.opens (no_doubt true refl) in
    let trees = c.in-Ok.ensures.trees (no_doubt true refl) in
    let empty = ap (λ (db : Trees). db catalog_tree) trees ∙ c.new.ensures.empty in
    (opened.0, opened.1, lists_none c.in-Ok.connection.schema _ empty (opened.1 refl).0)
