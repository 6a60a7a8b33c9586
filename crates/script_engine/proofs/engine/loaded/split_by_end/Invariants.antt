use Rattle.std.proofs.Common.{◌≡◌, ◌++◌}
use Rattle.std.specs.List.{filter}
use Rattle.script_engine.specs.engine.Ended.{has_ended, is_current}
use Rattle.script_engine.proofs.engine.loaded.split_by_end.Given as goal

abbrev pub invariant-loop-version : goal.invariant-loop-version
invariant-loop-version l = record {
  current : filter is_current l.fn.versions.items ≡ l.current.items ++ filter is_current l.version-iterator.rest.items;
  ended : filter has_ended l.fn.versions.items ≡ l.ended.items ++ filter has_ended l.version-iterator.rest.items;
}
