-- The model of a tree.
use Rattle.std.specs.Prelude.{ℕ, List, refl}
use Rattle.std.specs.Coded.{Coded, code_by, coded×, coded_list, coded_ℕ}
use Rattle.sqlite_value.specs.Order.{Row}
use Rattle.sqlite_value.specs.contracts.row.Row.{the_row}

-- the rows of a tree in order, and its height
pub record RowTree : Type 0 where
  pub rows : List Row
  pub height : ℕ

-- the code of a tree in the model: the rows, and the height after them
abbrev pub row_tree_code : Coded RowTree
row_tree_code =
    code_by (List Row × ℕ) (coded× (coded_list the_row.coded) coded_ℕ)
    (λ t. (t.rows, t.height)) (λ p. record { rows = p.0; height = p.1 }) (λ _. refl)
