use Rattle.std.proofs.Common.{take}
use Rattle.snapshot_audit.proofs.KeyOrder.{AreEntries}
use Rattle.snapshot_audit.proofs.keys.by_key.Given as goal

abbrev pub invariant-loop-row : goal.invariant-loop-row
invariant-loop-row l = AreEntries l.columns (take l.row-index l.rows) l.entries.items
