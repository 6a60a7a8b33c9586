use Rattle.std.proofs.Common.{ap, sym}
use Rattle.memory_store.specs.ContentStates.{before_all, state_snapshot, state_of}
use Rattle.memory_store.proofs.store.MemoryStore.new.Goals as goal

pub returns-clause-committed : goal.returns-clause-committed
returns-clause-committed c = ap (λ log. (state_snapshot (before_all log (state_of c.new.result.content))).trees) (sym c.new.ensures.log)
