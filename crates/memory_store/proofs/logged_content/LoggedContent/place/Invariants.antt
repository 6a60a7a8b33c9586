use Rattle.std.proofs.Common.{◌≡◌, ◌+◌, ◌-◌, length}
use Rattle.memory_store.specs.Content.{snapshot}
use Rattle.memory_store.specs.LoggedContents.{Keeps}
use Rattle.memory_store.proofs.logged_content.LoggedContent.place.Given as goal

abbrev pub invariant-loop-alloc : goal.invariant-loop-alloc
invariant-loop-alloc l = record {
  kept : Keeps l.fn.self l.self;
  same : snapshot l.self.content ≡ snapshot l.fn.self.content;
  version : l.self.content.version ≡ l.fn.self.content.version;
}

abbrev pub decreases-loop-alloc : goal.decreases-loop-alloc
decreases-loop-alloc l = l.tree + 1 - length l.self.content.trees.items
