use Rattle.std.proofs.Common.{◌≡◌}
use Rattle.script_engine.specs.engine.Needed.{ReadOn}
use Rattle.script_engine.proofs.engine.read_lists.read_next.Given as goal

abbrev pub invariant-loop-place : goal.invariant-loop-place
invariant-loop-place l = record {
  same : l.tables ≡ l.fn.tables;
  read : ReadOn l.fn.tables l.select l.fn.lists.items l.lists.items;
}
