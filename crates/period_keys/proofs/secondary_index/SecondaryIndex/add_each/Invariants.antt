use Rattle.std.proofs.Common.{take}
use Rattle.std.specs.List.{Contains}
use Rattle.period_keys.specs.Keys.{values_at}
use Rattle.period_keys.specs.Secondary.{HasMoreEntries, entries_of}
use Rattle.period_keys.proofs.secondary_index.SecondaryIndex.add_each.Given as goal

abbrev pub invariant-loop-row : goal.invariant-loop-row
invariant-loop-row g l = record {
  more : HasMoreEntries l.fn.self l.self;
  seen : (row : g.row.R.Denot) → Contains (take l.row-index l.rows) row → Contains (entries_of l.self) (values_at l.fn.self.entry_positions (g.R.Valued.values row));
}
