use Rattle.std.proofs.Common.{refl, true}
use Rattle.sqlite_trees.proofs.Doubt.{no_doubt}
use Rattle.memory_store.proofs.store.MemoryStoreStore.put.Goals as goal

pub write-requires : goal.write-requires
write-requires c = (c.requires.table (no_doubt true refl), c.requires.keyed (no_doubt true refl))
