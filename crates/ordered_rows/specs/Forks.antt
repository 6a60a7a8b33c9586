-- The model of a node of the tree.
use Rattle.std.specs.Prelude.{◌≡◌, ◌+◌, ◌-◌, ◌^◌, ◌%◌, ◌++◌, ℕ, [], ◌∷◌, length, max, min, ⊤}
use Rattle.ordered_rows.specs.declared.tree.Fork.{Fork as ForkOf}
use Rattle.ordered_rows.specs.declared.tree.Link.{Link}
use Rattle.ordered_rows.specs.declared.tree.Link.TheVariants.{Leaf, Fork}
use Rattle.ordered_rows.specs.Heights.{DifferByAtMost, IsLow}
use Rattle.ordered_rows.specs.RowTrees.{RowTree}

-- a fork's row between the rows of its sides, and one more than the height of its higher side
abbrev pub fork_tree : ForkOf → RowTree
fork_tree f = record {
  rows = f.left.rows ++ f.row ∷ f.right.rows;
  height = max f.left.height f.right.height + 1;
}

-- the rows and the height of a link
abbrev pub tree_of : Link → RowTree
tree_of Leaf = record { rows = []; height = 0 }
tree_of (Fork height count f) = fork_tree f.value

-- the greatest number of rows that is counted
abbrev pub most : ℕ
most = 2 ^ 32 - 1

-- the height and the number of rows of a fork are right, and it is balanced, which makes it low
pub record IsBalanced (height count : ℕ) (f : ForkOf) : Type 0 where
  pub height_is : height ≡ (fork_tree f).height % 256
  pub count_is : count ≡ min (length (fork_tree f).rows) most
  pub balanced : DifferByAtMost 1 f.left.height f.right.height
  pub low : IsLow (fork_tree f).height (length (fork_tree f).rows)

-- the numbers of rows of a fork are right, and it is balanced
abbrev pub IsSound : Link → Type 0
IsSound Leaf = ⊤
IsSound (Fork height count f) = IsBalanced height count f.value
