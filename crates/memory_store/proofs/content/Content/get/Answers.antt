use Rattle.std.proofs.Common.{◌≡◌, ◌∙◌, ap, arith, sym}
use Rattle.sqlite_trees.specs.declared.store.Shape.TheVariants.{Table}
use Rattle.memory_store.proofs.Snapshots.{place_of, shape_at, within_by_shape}
use Rattle.memory_store.proofs.Shaped.{shaped}
use Rattle.memory_store.proofs.content.Content.get.Goals as goal

pub get-requires : goal.get-requires
get-requires c =
    let s = c.args.self.now in
    let within = within_by_shape s.trees.items s.version c.args.table (omega arith) (λ none. cc) in
    let at = place_of s.trees.items c.args.table c.index.result.now within c.index.ensures in
    let table : c.index.result.now.shape ≡ Table = ap (λ h. h.0) (sym at.0) ∙ sym (shape_at s.trees.items s.version c.args.table (omega arith)) ∙ c.requires in
    rw table at (shaped _ _ c.index.result.now.ordered)
