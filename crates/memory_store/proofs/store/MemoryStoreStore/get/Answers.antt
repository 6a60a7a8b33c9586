use Rattle.std.proofs.Common.{refl, true}
use Rattle.sqlite_trees.proofs.Doubt.{no_doubt}
use Rattle.memory_store.proofs.store.MemoryStoreStore.get.Goals as goal

pub get-requires : goal.get-requires
get-requires c = rw c.content.ensures (c.requires (no_doubt true refl))
