use Rattle.std.proofs.Common.{◌≡◌}
use Rattle.script_engine.proofs.engine.needed_rows.looked_up_after.Given as goal

abbrev pub invariant-loop-i : goal.invariant-loop-i
invariant-loop-i l = record {
  same : l.tables ≡ l.fn.tables;
}
