use Rattle.std.proofs.Common.{◌≡◌, ◌++◌, drop}
use Rattle.script_engine.specs.engine.Needed.{starts_from}
use Rattle.script_engine.proofs.engine.read_lists.starts_of.Given as goal

abbrev pub invariant-loop-reference : goal.invariant-loop-reference
invariant-loop-reference l = record {
  starts : l.starts.items ++ starts_from l.start (drop l.reference-index l.references) ≡ starts_from 0 l.references;
}
