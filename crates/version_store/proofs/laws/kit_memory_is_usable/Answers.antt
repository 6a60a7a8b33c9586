use Rattle.std.proofs.Common.{refl}
use Rattle.sqlite.proofs.Callers.{memory_is_clean}
use Rattle.version_store.proofs.laws.kit_memory_is_usable.Goals as goal

pub returns : goal.returns
returns c = λ connection. (memory_is_clean connection, refl)
