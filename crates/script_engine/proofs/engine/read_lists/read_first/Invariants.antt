use Rattle.std.proofs.Common.{◌≡◌}
use Rattle.script_engine.specs.engine.Needed.{ReadOn}
use Rattle.script_engine.proofs.engine.read_lists.read_first.Given as goal

abbrev pub invariant-loop-more : goal.invariant-loop-more
invariant-loop-more l = record {
  same : l.tables ≡ l.fn.tables;
  read : ReadOn l.fn.tables l.select l.fn.lists.items l.lists.items;
}
