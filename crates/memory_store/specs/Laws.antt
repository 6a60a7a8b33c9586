-- The laws of a store in memory: its trees are in order, and listed as they are.
use Rattle.std.specs.Prelude.{◌==◌, ◌≡◌, List, [], ◌∷◌, false, if◌then◌else◌, map, suc, true, zero}
use Rattle.std.proofs.Common.{refl, subst}
use Rattle.std.proofs.Math.Logic.{∥∥₁_elim}
use Rattle.sqlite_trees.specs.declared.store.Shape.TheVariants.{Table}
use Rattle.sqlite_trees.specs.Listing.{listed_once, objects_are_listed, objects_are_ordered}
use Rattle.sqlite_trees.specs.Listing.{objects_from, shape_in}
use Rattle.sqlite_trees.specs.Objects.{IsListed, catalog_tree, version_rows, version_tree}
use Rattle.sqlite_trees.specs.Props.{IsShaped-prop}
use Rattle.sqlite_trees.specs.View.{IsOrdered, IsShaped}
use Rattle.memory_store.specs.declared.content.Content.{Content}
use Rattle.memory_store.specs.declared.store.MemoryStore.{MemoryStore}
use Rattle.memory_store.specs.declared.tree.StoredTree.{StoredTree}
use Rattle.memory_store.specs.Content.{heading, rows_of, snapshot}
use Rattle.memory_store.specs.LoggedContents.{base}
use Rattle.memory_store.specs.Memory.{memory_view}

-- the rows of each tree have its shape
pub rows_are_ordered : (trees : List StoredTree)
    → IsOrdered (shape_in (map heading trees)) (rows_of trees)
rows_are_ordered [] t = refl
rows_are_ordered (x ∷ trees) zero = ∥∥₁_elim x.ordered (IsShaped-prop x.shape x.rows) (λ h. h)
rows_are_ordered (x ∷ trees) (suc t) = rows_are_ordered trees t

-- the list of objects and the version, which are trees too, are ordered
content_is_ordered : (c : Content) → IsOrdered (snapshot c).shape (snapshot c).trees
content_is_ordered c t =
    let hs = map heading c.trees.items in
    let rows = rows_of c.trees.items t in
    let objects = objects_from 0 hs in
    let below : IsShaped
    (if t == catalog_tree then Table else shape_in hs t)
    (if t == catalog_tree then objects else rows) =
    elim (t == catalog_tree) as (λ b. IsShaped
    (if b then Table else shape_in hs t)
    (if b then objects else rows))
    [ true ↦ objects_are_ordered hs 0 | false ↦ rows_are_ordered c.trees.items t ] in
    elim (t == version_tree) as (λ b. IsShaped
    (if b then Table else (if t == catalog_tree then Table else shape_in hs t))
    (if b then version_rows c.version else (if t == catalog_tree then objects else rows)))
    [ true ↦ ((tt, tt), (refl, tt)) | false ↦ below ]

content_is_listed : (c : Content)
    → IsListed ((snapshot c).trees catalog_tree) (snapshot c).shape (snapshot c).reals
content_is_listed c = objects_are_listed (map heading c.trees.items)

-- the rows of each tree of a store in memory are in order too
pub memory_is_ordered : (s : MemoryStore) → IsOrdered (memory_view s).shape (memory_view s).trees
memory_is_ordered s = content_is_ordered s.logged.content

-- the list of objects of a store in memory is its trees' list
pub memory_is_listed : (s : MemoryStore)
    → IsListed ((memory_view s).trees catalog_tree) (memory_view s).shape (memory_view s).reals
memory_is_listed s = content_is_listed s.logged.content

-- one list gives the shapes and the REAL columns
pub memory_is_unaltered : (s : MemoryStore)
    → (memory_view s).trees catalog_tree ≡ (memory_view s).committed catalog_tree
    → ((memory_view s).shape ≡ (memory_view s).committed_shape)
    × ((memory_view s).reals ≡ (memory_view s).committed_reals)
memory_is_unaltered s same =
    let now = subst (λ objects. IsListed objects (memory_view s).shape (memory_view s).reals)
    same (memory_is_listed s) in
    listed_once _ _ _ _ _ now (objects_are_listed (base s.logged).headings)
