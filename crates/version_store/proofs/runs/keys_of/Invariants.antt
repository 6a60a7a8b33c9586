use Rattle.std.proofs.Common.{take}
use Rattle.version_store.specs.Runs.{AreKeysOf}
use Rattle.version_store.proofs.runs.keys_of.Given as goal

abbrev pub invariant-loop-row : goal.invariant-loop-row
invariant-loop-row l = AreKeysOf l.moment (take l.row-index l.rows) l.keys.items
