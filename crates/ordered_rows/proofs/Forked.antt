-- The rows of a tree whose root is a fork: its left side's rows, its row, its right side's rows.
use Rattle.std.proofs.Common.{◌≡◌, ◌<◌, ℕ, List, ◌∷◌, ◌++◌, length, sym, ap, ◌∙◌, arith, length-append}
use Rattle.std.specs.declared.alloc.Global.{Global}
use Rattle.std.specs.declared.boxed.Box.{Box}
use Rattle.sqlite_value.specs.Order.{Row}
use Rattle.ordered_rows.specs.declared.tree.Fork.{Fork}
use Rattle.ordered_rows.specs.declared.tree.Link.{Link}
use Rattle.ordered_rows.specs.declared.tree.Link.TheVariants as link
use Rattle.ordered_rows.specs.Forks.{fork_tree, tree_of}
use Rattle.ordered_rows.specs.RowTrees.{RowTree}

pub forked : {l : Link} {t : RowTree} {height : ℕ} {count : ℕ} {shared : Box Fork Global} {f : Fork} → tree_of l ≡ t → l ≡ link.Fork height count shared → f ≡ shared.value
    → t.rows ≡ f.left.rows ++ f.row ∷ f.right.rows
forked view_is is same = ap (λ (t : RowTree). t.rows) (sym view_is ∙ ap tree_of is ∙ ap fork_tree (sym same))

-- either side has fewer rows
pub shorter : {rows : List Row} (xs : List Row) (r : Row) (ys : List Row) → rows ≡ xs ++ r ∷ ys → (length xs < length rows) × (length ys < length rows)
shorter xs r ys is = rw is (omega (arith, length-append xs (r ∷ ys)), omega (arith, length-append xs (r ∷ ys)))
