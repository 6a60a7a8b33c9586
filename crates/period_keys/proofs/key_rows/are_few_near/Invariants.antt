use Rattle.std.proofs.Common.{◌≤◌}
use Rattle.period_keys.proofs.key_rows.are_few_near.Given as goal

abbrev pub invariant-loop-block : goal.invariant-loop-block
invariant-loop-block l = l.near ≤ l.block-index
