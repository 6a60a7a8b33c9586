-- A connection to a store in memory.
use Rattle.std.specs.Prelude.{◌≡◌, IsTrue, None, refl, true}
use Rattle.sqlite_trees.specs.declared.store.Store.{Ghosts}
use Rattle.sqlite_trees.proofs.Doubt.{no_doubt}
use Rattle.sqlite.specs.Held.{Held, state}
use Rattle.sqlite.specs.State.{HasCleanDisk}
use Rattle.memory_store.specs.declared.store.MemoryStore.{MemoryStore}
use Rattle.memory_store.specs.Memory.{memory_view}

-- the members of `Store`, for a store in memory
abbrev pub over_memory : Ghosts MemoryStore
over_memory = record {
  view = memory_view;
  faults = λ _. 0;
  recovers = λ s db. db ≡ (memory_view s).committed;
  is_shielded = λ _. Unit {0};
  is_step = λ _ _ _. Unit {0};
  blamed = λ _. None;
  names = λ _ _ _. Unit {0};
}

-- Each connection to a store in memory has a clean disk, and is open.
pub memory_is_usable : (c : Held MemoryStore)
    → HasCleanDisk (state over_memory c) × IsTrue (state over_memory c).is_open
memory_is_usable c = (no_doubt true refl, refl)
