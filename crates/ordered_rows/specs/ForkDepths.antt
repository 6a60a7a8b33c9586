-- Each side of a fork has fewer rows than the fork.
use Rattle.std.specs.Prelude.{◌≤◌, max, ◌∷◌, length}
use Rattle.std.proofs.Common.{arith, length-append}
use Rattle.ordered_rows.specs.declared.tree.Link.{Link}
use Rattle.ordered_rows.specs.declared.tree.Link.TheVariants.{Leaf, Fork}
use Rattle.ordered_rows.specs.declared.tree.BalancedTree.TheDeep.{deep-Link}
use Rattle.ordered_rows.specs.Forks.{tree_of}

-- a link is no deeper than it has rows
pub depth_le_length : (l : Link) → max (deep-Link l) 0 ≤ length (tree_of l).rows
depth_le_length Leaf = omega arith
depth_le_length (Fork height count f) =
    omega (arith, length-append f.value.left.rows (f.value.row ∷ f.value.right.rows))
