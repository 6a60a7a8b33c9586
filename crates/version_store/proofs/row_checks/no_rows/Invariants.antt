use Rattle.std.proofs.Common.{◌≡◌, ℕ, [], length}
use Rattle.version_store.specs.Contents.{rows_of_table}
use Rattle.version_store.proofs.row_checks.no_rows.Given as goal

abbrev pub invariant-lists : goal.invariant-lists
invariant-lists l = record {
  count : length l.lists.items ≡ l._turn;
  none : (number : ℕ) → rows_of_table l.lists.items number ≡ [];
}
