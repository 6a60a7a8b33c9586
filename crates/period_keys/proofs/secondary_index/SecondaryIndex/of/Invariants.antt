use Rattle.std.proofs.Common.{◌≡◌, ◌++◌, List}
use Rattle.std.specs.List.{Contains}
use Rattle.period_core.specs.declared.version.VersionRow.{VersionRow}
use Rattle.period_keys.specs.Rows.{rows_of_lists}
use Rattle.period_keys.specs.Secondary.{entries_of}
use Rattle.period_keys.specs.Versions.{version_key}
use Rattle.period_keys.proofs.secondary_index.SecondaryIndex.of.Given as goal

abbrev pub invariant-loop-group : goal.invariant-loop-group
invariant-loop-group l = record {
  positions : l.index.positions ≡ l.positions;
  joined : l.index.entry_positions ≡ l.positions ++ l.current.positions;
  done : List VersionRow;
  split : l.current.rows ≡ done ++ rows_of_lists l.group-iterator;
  seen : (v : VersionRow) → Contains done v → Contains (entries_of l.index) (version_key l.index.entry_positions v);
}
