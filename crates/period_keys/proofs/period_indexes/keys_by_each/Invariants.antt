use Rattle.std.proofs.Common.{map, take}
use Rattle.period_keys.specs.PeriodIndexes.{AreKeysByEach, positions_by}
use Rattle.period_keys.proofs.period_indexes.keys_by_each.Given as goal

abbrev pub invariant-loop-index : goal.invariant-loop-index
invariant-loop-index l = AreKeysByEach l.rows (map positions_by (take l.index-index l.indexes)) l.keys.items
