-- The last commit and the savepoints of a content with its undo log.
use Rattle.std.specs.Prelude.{◌≡◌, List}
use Rattle.sqlite_trees.specs.View.{Snapshot}
use Rattle.memory_store.specs.declared.logged_content.LoggedContent.{LoggedContent}
use Rattle.memory_store.specs.ContentStates.{ContentState, before_all, marked, state_of}

-- the content as the last commit left it
abbrev pub base : LoggedContent → ContentState
base h = before_all h.log.items (state_of h.content)

-- the snapshots to which the savepoints go back, the newest last
abbrev pub marks : LoggedContent → List Snapshot
marks h = marked h.log.items (state_of h.content)

-- the last commit and the savepoints stay
pub record Keeps (old new : LoggedContent) : Type 0 where
  pub base : base new ≡ base old
  pub marks : marks new ≡ marks old
