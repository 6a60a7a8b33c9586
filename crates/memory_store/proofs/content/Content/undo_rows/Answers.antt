use Rattle.std.proofs.Common.{◌<◌, length, rules}
use Rattle.std.proofs.Math.Logic.{∥∥₁_map}
use Rattle.memory_store.proofs.ContentStates.{rows_undone, shaped_at}
use Rattle.memory_store.proofs.content.Content.undo_rows.Goals as goal

pub undo-requires : goal.undo-requires
undo-requires c =
    let s = c.args.self.now in
    let within : c.args.tree < length s.trees.items = search rules in
    ∥∥₁_map c.requires (λ h. shaped_at s.trees.items s.version c.args.tree c.index_mut.result.now within c.index_mut.ensures.value c.args.undo h)

pub returns-then-tree-len : goal.returns-then-tree-len
returns-then-tree-len c =
    let s = c.args.self.now in
    let within : c.args.tree < length s.trees.items = search rules in
    rows_undone s.trees.items s.version c.args.tree c.index_mut.result.now within c.index_mut.ensures.value c.undo.new.self c.args.undo c.undo.ensures.heading c.undo.ensures.rows
