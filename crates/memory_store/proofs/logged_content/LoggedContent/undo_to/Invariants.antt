use Rattle.std.proofs.Common.{◌≤◌, length}
use Rattle.memory_store.specs.ContentStates.{state_of}
use Rattle.memory_store.proofs.Logs.{IsUndone}
use Rattle.memory_store.proofs.logged_content.LoggedContent.undo_to.Given as goal

abbrev pub invariant-loop-self : goal.invariant-loop-self
invariant-loop-self l = record {
  enough : l.count ≤ length l.self.log.items;
  undone : IsUndone l.fn.self.log.items l.self.log.items (state_of l.fn.self.content) (state_of l.self.content);
}

abbrev pub decreases-loop-self : goal.decreases-loop-self
decreases-loop-self l = length l.self.log.items
