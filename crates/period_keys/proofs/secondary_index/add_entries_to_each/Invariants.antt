use Rattle.std.proofs.Common.{◌≡◌, length}
use Rattle.period_keys.proofs.EntryKeys.{AreMore, HaveAdded}
use Rattle.period_keys.proofs.secondary_index.add_entries_to_each.Given as goal

abbrev pub invariant-loop-i : goal.invariant-loop-i
invariant-loop-i l = record {
  size : length l.indexes ≡ length l.fn.indexes;
  more : AreMore l.fn.indexes l.indexes;
  added : HaveAdded l.rows l.fn.indexes l.indexes l.i;
}
