use Rattle.std.proofs.Common.{[], ◌∷◌}
use Rattle.std.proofs.Math.Logic.{∥∥₁_map}
use Rattle.memory_store.specs.ContentStates.{state_of}
use Rattle.memory_store.proofs.Logs.{past_split}
use Rattle.memory_store.proofs.logged_content.LoggedContent.undo_last.Goals as goal

pub undo-requires : goal.undo-requires
undo-requires c =
    let s = c.args.self.now in
    ∥∥₁_map s.valid (λ h. (past_split c.pop.new.self.items (c.in-Some.undo ∷ []) (state_of s.content) (rw c.in-Some.ensures.items at h)).1.0)

pub invariant_of-self : goal.invariant_of-self
invariant_of-self c =
    let s = c.args.self.now in
    record { valid = ∥∥₁_map s.valid (λ h. rw c.undo.ensures (past_split c.pop.new.self.items (c.in-Some.undo ∷ []) (state_of s.content) (rw c.in-Some.ensures.items at h)).0) }
