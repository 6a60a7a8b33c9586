use Rattle.std.proofs.Common.{◌∙◌, ap, sym}
use Rattle.memory_store.specs.ContentStates.{before, state_of, state_in}
use Rattle.memory_store.proofs.ContentStates.{state_set}
use Rattle.memory_store.proofs.content.Content.undo.Goals as goal

pub undo_rows-requires : goal.undo_rows-requires
undo_rows-requires c = rw c.in-Rows.is at c.requires

pub returns-then-tree-len : goal.returns-then-tree-len
returns-then-tree-len c =
    let s = c.args.self.now in
    (λ i. state_in (c.replace.ensures.trees i) (c.replace.ensures.version i))
    ∙ state_set s.trees.items s.version c.in-Replaced.tree c.in-Replaced.old
    ∙ ap (λ undo. before undo (state_of s)) (sym c.in-Replaced.is)
