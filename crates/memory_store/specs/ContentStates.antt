-- The state of a content, and its state before a change.
use Rattle.std.specs.Prelude.{◌≡◌, ◌<◌, ◌+◌, ◌-◌, ℕ, Bool, true, false, List, [], ◌∷◌, ⊤}
use Rattle.std.specs.Prelude.{drop, length, map, slice_index_or, slice_set, take}
use Rattle.std.specs.List.{AllByRecursion}
use Rattle.sqlite_value.specs.Order.{Row}
use Rattle.sqlite_trees.specs.Listing.{Heading, shape_in}
use Rattle.sqlite_trees.specs.Memory.{snapshot_of}
use Rattle.sqlite_trees.specs.View.{IsOrdered, Snapshot}
use Rattle.ordered_rows.specs.Undos.{undone}
use Rattle.memory_store.specs.declared.content.Content.{Content}
use Rattle.memory_store.specs.declared.log_entry.LogEntry.{LogEntry}
use Rattle.memory_store.specs.declared.log_entry.LogEntry.TheVariants.{Relisted, Released, Rows}
use Rattle.memory_store.specs.declared.log_entry.LogEntry.TheVariants.{Savepoint, SlotAdded}
use Rattle.memory_store.specs.declared.log_entry.LogEntry.TheVariants.{Version}
use Rattle.memory_store.specs.declared.log_entry.LogEntry.TheVariants as entry
use Rattle.memory_store.specs.declared.tree.StoredTree.{StoredTree}
use Rattle.memory_store.specs.Content.{heading}

-- the state of a content: at each number a heading and rows, and the version
pub record ContentState : Type 0 where
  pub headings : List Heading
  pub rows : List (List Row)
  pub version : ℕ

-- the state of trees and a version
abbrev pub state_in : List StoredTree → ℕ → ContentState
state_in trees version = record {
  headings = map heading trees;
  rows = map (λ tree. tree.rows) trees;
  version = version;
}

-- the state of a content
abbrev pub state_of : Content → ContentState
state_of c = state_in c.trees.items c.version

-- the rows at a number
abbrev pub rows_at : ContentState → ℕ → List Row
rows_at s t = slice_index_or s.rows t []

-- the snapshot of a content in this state
abbrev pub state_snapshot : ContentState → Snapshot
state_snapshot s = snapshot_of s.headings (rows_at s) s.version

-- the rows at each number have the shape of its heading
abbrev pub RowsFitShapes : ContentState → Type 0
RowsFitShapes s = IsOrdered (shape_in s.headings) (rows_at s)

-- a list without its last element
abbrev pub shorter : {X : Type 0} → List X → List X
shorter xs = take (length xs - 1) xs

-- the state before a change
abbrev pub before : LogEntry → ContentState → ContentState
before Released s = s
before Savepoint s = s
before (Rows t u) s = record s { rows = slice_set s.rows t (undone u (rows_at s t)) }
before SlotAdded s = record s { headings = shorter s.headings; rows = shorter s.rows }
before (entry.Replaced t old) s = record s {
  headings = slice_set s.headings t (heading old);
  rows = slice_set s.rows t old.rows;
}
before (Relisted t described reals) s =
    record s { headings = slice_set s.headings t (shape_in s.headings t, reals, described) }
before (Version version) s = record s { version = version }

-- the state before all of the changes, the newest last
abbrev pub before_all : List LogEntry → ContentState → ContentState
before_all [] s = s
before_all (u ∷ more) s = before u (before_all more s)

-- whether an entry is a savepoint
abbrev pub is_savepoint : LogEntry → Bool
is_savepoint Savepoint = true
is_savepoint _ = false

-- the snapshot that each savepoint returns to
abbrev pub marked : List LogEntry → ContentState → List Snapshot
marked [] s = []
marked (Savepoint ∷ more) s = state_snapshot (before_all more s) ∷ marked more s
marked (_ ∷ more) s = marked more s

-- wherever the log leads back to, the rows have their shapes
abbrev pub IsValidLog : List LogEntry → ContentState → Type 0
IsValidLog [] s = ⊤
IsValidLog (u ∷ more) s = RowsFitShapes (before_all (u ∷ more) s) × IsValidLog more s

-- no entry is a savepoint
abbrev pub HaveNoSavepoint : List LogEntry → Type 0
HaveNoSavepoint = AllByRecursion (λ u. is_savepoint u ≡ false)

-- a savepoint is at this place, and none after it
pub record IsNewestSavepoint (log : List LogEntry) (at : ℕ) : Type 0 where
  pub within : at < length log
  pub savepoint : slice_index_or log at Released ≡ Savepoint
  pub newest : HaveNoSavepoint (drop (at + 1) log)
