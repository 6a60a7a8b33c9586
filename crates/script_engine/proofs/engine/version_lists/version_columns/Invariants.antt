use Rattle.std.proofs.Common.{◌≡◌, ◌≤◌, map}
use Rattle.script_engine.specs.engine.VersionLists.{version_column}
use Rattle.script_engine.proofs.ColumnFacts.{before, position_in}
use Rattle.script_engine.proofs.engine.version_lists.version_columns.Given as goal

abbrev pub invariant-loop-i : goal.invariant-loop-i
invariant-loop-i l = record {
  bound : l.position ≤ l.i;
  counted : l.position ≡ position_in l.table l.declared l.i;
  made : l.columns.items ≡ map (version_column l.table) (before l.declared l.i);
}
