use Rattle.std.proofs.Common.{◌≡◌, None, map, take}
use Rattle.script_engine.proofs.engine.read_lists.none_read.Given as goal

abbrev pub invariant-loop-reference : goal.invariant-loop-reference
invariant-loop-reference l = record {
  none : l.lists.items ≡ map (λ reference. None) (take l._reference-index l.references);
}
