use Rattle.std.proofs.Common.{◌≡◌, ◌++◌, take}
use Rattle.snapshot_audit.proofs.combined_rows.side_by_side.Given as goal

abbrev pub invariant-loop-value : goal.invariant-loop-value
invariant-loop-value l = l.both.items ≡ take l.value-index l.first

abbrev pub invariant-loop-value-2 : goal.invariant-loop-value-2
invariant-loop-value-2 l = l.both.items ≡ l.first ++ take l.value-index l.second
