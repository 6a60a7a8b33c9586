-- The view of a store in memory.
use Rattle.std.specs.Prelude.{List, false, option_map, slice_index_or, true, None}
use Rattle.sqlite_value.specs.Order.{Row}
use Rattle.sqlite_trees.specs.View.{View}
use Rattle.ordered_rows.specs.Cursors.{left}
use Rattle.memory_store.specs.declared.content.Content.{Content}
use Rattle.memory_store.specs.declared.store.Cursor.{Cursor}
use Rattle.memory_store.specs.declared.store.MemoryStore.{MemoryStore}
use Rattle.memory_store.specs.Content.{snapshot}
use Rattle.memory_store.specs.LoggedContents.{base, marks}
use Rattle.memory_store.specs.ContentStates.{state_snapshot}

-- the rows that a cursor has still to give
abbrev pub left_in : Content → Cursor → List Row
left_in content cursor = left cursor.place ((snapshot content).trees cursor.tree)

-- A store in memory is always clean, open and sound.
abbrev pub memory_view : MemoryStore → View
memory_view s = record {
  trees = (snapshot s.logged.content).trees;
  committed = (state_snapshot (base s.logged)).trees;
  cursors = λ c. option_map (left_in s.logged.content) (slice_index_or s.cursors.items c None);
  shape = (snapshot s.logged.content).shape;
  reals = (snapshot s.logged.content).reals;
  committed_shape = (state_snapshot (base s.logged)).shape;
  committed_reals = (state_snapshot (base s.logged)).reals;
  marks = marks s.logged;
  is_numbered = true;
  has_sums = false;
  is_open = true;
  is_broken = false;
  is_clean = true;
}
