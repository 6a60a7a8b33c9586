-- The snapshot of a content: its trees and its version.
use Rattle.std.specs.Prelude.{◌≡◌, ◌≢◌, [], ◌<◌, List, ℕ}
use Rattle.std.specs.Prelude.{fold, length, map, slice_index_or, slice_set}
use Rattle.sqlite_value.specs.Order.{Row}
use Rattle.sqlite_trees.specs.declared.schema.Object.{Object}
use Rattle.sqlite_trees.specs.declared.store.Shape.{Shape}
use Rattle.sqlite_trees.specs.declared.store.Shape.TheVariants.{Absent}
use Rattle.sqlite_trees.specs.Listing.{Heading}
use Rattle.sqlite_trees.specs.Memory.{snapshot_of}
use Rattle.sqlite_trees.specs.Objects.{catalog_tree, relisted, set_at}
use Rattle.sqlite_trees.specs.Tree.{Trees, with_tree}
use Rattle.sqlite_trees.specs.View.{Snapshot}
use Rattle.memory_store.specs.declared.content.Content.{Content}
use Rattle.memory_store.specs.declared.tree.StoredTree.{StoredTree}

-- the shape of a tree, its REAL columns and its description
abbrev pub heading : StoredTree → Heading
heading t = (t.shape, t.reals, t.described)

-- the rows at each number
abbrev pub rows_of : List StoredTree → Trees
rows_of trees t = slice_index_or (map (λ tree. tree.rows) trees) t []

-- the trees with the list of them and with the version, their shapes and their REAL columns
abbrev pub snapshot_in : List StoredTree → ℕ → Snapshot
snapshot_in trees version = snapshot_of (map heading trees) (rows_of trees) version

-- the snapshot of a content
abbrev pub snapshot : Content → Snapshot
snapshot c = snapshot_in c.trees.items c.version

-- the snapshot with one tree edited
abbrev pub with_edit : Snapshot → ℕ → (List Row → List Row) → Snapshot
with_edit s tree edit = record s { trees = with_tree s.trees tree (edit (s.trees tree)) }

-- the snapshot with one tree empty, of this shape, and the list of objects edited
abbrev pub with_object : Snapshot → ℕ → Shape → ℕ → (List Row → List Row) → Snapshot
with_object s tree shape reals edit = record {
  trees = with_tree (with_tree s.trees tree []) catalog_tree (edit (s.trees catalog_tree));
  shape = set_at s.shape tree shape;
  reals = set_at s.reals tree reals;
}

-- the trees keep their rows, and are listed as these objects
abbrev pub with_listed : Snapshot → List (ℕ × Object) → Snapshot
with_listed s changes = record s {
  trees = with_tree s.trees catalog_tree (relisted (s.trees catalog_tree) changes);
  reals = fold (λ reals change. set_at reals change.0 change.1.reals) s.reals changes;
}

-- the tree may be listed as this object, which has its shape
pub record MayList (s : Snapshot) (change : ℕ × Object) : Type 0 where
  pub shaped : s.shape change.0 ≡ change.1.shape
  pub present : change.1.shape ≢ Absent

-- there is room for the number, and the tree exists
pub record HasPlaced (old new : Content) (tree : ℕ) (it : StoredTree) : Type 0 where
  pub room : List StoredTree
  pub same : snapshot_in room old.version ≡ snapshot old
  pub within : tree < length room
  pub is : new.trees.items ≡ slice_set room tree it
  pub version : new.version ≡ old.version
