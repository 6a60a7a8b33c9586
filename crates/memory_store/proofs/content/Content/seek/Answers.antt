use Rattle.memory_store.proofs.Shaped.{shaped}
use Rattle.memory_store.proofs.content.Content.seek.Goals as goal

pub seek-requires : goal.seek-requires
seek-requires c = shaped _ _ c.in-Some.found.now.ordered
