use Rattle.std.proofs.Common.{◌≡◌, ◌∙◌, ap, arith, refl, sym}
use Rattle.memory_store.proofs.Snapshots.{place_of, snapshot_relisted, shape_at}
use Rattle.memory_store.proofs.ContentStates.{listed_back, state_listed}
use Rattle.memory_store.proofs.content.Content.relist.Goals as goal

pub returns-clause-state : goal.returns-clause-state
returns-clause-state c =
    let s = c.args.self.now in
    let found = c.index_mut-found.result.now in
    rw (← c.replace-described.ensures.after, ← c.replace-reals.ensures.after) (state_listed s.trees.items s.version c.args.tree found c.requires c.index_mut-found.ensures.value _ refl refl)

pub returns-clause-undo : goal.returns-clause-undo
returns-clause-undo c =
    let s = c.args.self.now in
    let found = c.index_mut-found.result.now in
    rw (c.replace-described.ensures.value, c.replace-reals.ensures.value) (listed_back s.trees.items s.version c.args.tree found c.requires c.index_mut-found.ensures.value _ refl refl)

pub returns-clause-snapshot : goal.returns-clause-snapshot
returns-clause-snapshot c = λ o described reals may.
    let s = c.args.self.now in
    let found = c.index_mut-found.result.now in
    let at = place_of s.trees.items c.args.tree found c.requires c.index_mut-found.ensures.value in
    let kind : found.shape ≡ o.shape = ap (λ h. h.0) (sym at.0) ∙ sym (shape_at s.trees.items s.version c.args.tree (omega arith)) ∙ may.shaped in
    snapshot_relisted s.trees.items s.version c.args.tree _ (omega arith) c.requires o
    (λ i. (kind i, (c.replace-reals.ensures.after ∙ reals) i, (c.replace-described.ensures.after ∙ described) i)) may.present may.shaped (sym at.1)
