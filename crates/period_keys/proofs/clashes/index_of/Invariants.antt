use Rattle.std.proofs.Common.{take}
use Rattle.period_keys.specs.Index.{IsIndexOf}
use Rattle.period_keys.proofs.clashes.index_of.Given as goal

abbrev pub invariant-loop-row : goal.invariant-loop-row
invariant-loop-row l = IsIndexOf l.positions (take l.row-index l.rows) l.index
