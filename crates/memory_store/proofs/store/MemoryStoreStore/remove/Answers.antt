use Rattle.std.proofs.Common.{refl, true}
use Rattle.sqlite_trees.proofs.Doubt.{no_doubt}
use Rattle.memory_store.proofs.store.MemoryStoreStore.remove.Goals as goal

pub write-requires : goal.write-requires
write-requires c = rw (c.order-order.ensures, c.shape.ensures) (c.requires (no_doubt true refl))
