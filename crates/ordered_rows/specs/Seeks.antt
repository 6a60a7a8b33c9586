-- The order that a seek uses.
use Rattle.std.specs.Prelude.{List, IsTrue}
use Rattle.std.specs.Ordering.{is_lt, is_gt}
use Rattle.sqlite_value.specs.declared.keys.Order.{Order}
use Rattle.sqlite_value.specs.Order.{Row}
use Rattle.sqlite_value.specs.Keys.{prefix_cmp}
use Rattle.sqlite_trees.specs.Tree.{IsAscending}

-- a row before one below the key is below it too, and a row after one above it is above it
abbrev pub IsSeekable : Order → Row → List Row → Type 0
IsSeekable o key = IsAscending (λ a b.
    (IsTrue (is_lt (prefix_cmp o b key)) → IsTrue (is_lt (prefix_cmp o a key)))
    × (IsTrue (is_gt (prefix_cmp o a key)) → IsTrue (is_gt (prefix_cmp o b key))))
