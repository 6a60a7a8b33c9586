use Rattle.std.proofs.Common.{◌≡◌, take}
use Rattle.memory_store.specs.Content.{snapshot, with_listed}
use Rattle.memory_store.specs.LoggedContents.{Keeps}
use Rattle.memory_store.proofs.logged_content.LoggedContent.relist_each.Given as goal

abbrev pub invariant-loop-tree : goal.invariant-loop-tree
invariant-loop-tree l = record {
  kept : Keeps l.fn.self l.self;
  listed : snapshot l.self.content ≡ with_listed (snapshot l.fn.self.content) (take l.tree-index l.changes);
}
