use Rattle.std.proofs.Common.{refl, to_z-of_z, true}
use Rattle.sqlite_trees.proofs.Doubt.{no_doubt}
use Rattle.memory_store.proofs.store.MemoryStoreStore.delete.Goals as goal

pub write-requires : goal.write-requires
write-requires c = c.requires (no_doubt true refl)

pub returns-clause-ok : goal.returns-clause-ok
returns-clause-ok c _ = let fits = c.ranges.id in simp to_z-of_z at c.in_ok-write.ensures.ok
