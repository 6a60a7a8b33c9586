use Rattle.std.proofs.Common.{◌≡◌, ◌<◌, ◌≤◌, ℕ, length}
use Rattle.version_store.specs.Contents.{Contents, rows_of_table}
use Rattle.script_engine.specs.engine.Ended.{AllEndedBy}
use Rattle.script_engine.specs.engine.InMemory.{AreReadOf}
use Rattle.script_engine.proofs.EndedLoaded.{AreLoaded as AreEndedLoaded}
use Rattle.script_engine.proofs.Loaded.{AreLoaded}
use Rattle.script_engine.proofs.engine.loaded.load.Given as goal

abbrev pub invariant-loop-place : goal.invariant-loop-place
invariant-loop-place l = record {
  long : length l.tables.items ≡ l.place;
  ended_long : length l.ended.items ≡ l.place;
  below : l.place ≤ length l.catalog.tables;
  left : (number : ℕ) → l.place < number → rows_of_table l.lists.items number ≡ rows_of_table l.fn.lists.items number;
  current : (c : Contents) → AreReadOf c l.catalog.tables l.fn.lists.items → AreLoaded c l.place l.tables.items;
  ended : (c : Contents) → AreReadOf c l.catalog.tables l.fn.lists.items → AreEndedLoaded c l.place l.ended.items;
  before : AllEndedBy l.clock l.ended.items;
}
