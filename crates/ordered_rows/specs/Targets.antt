-- The target of a look-up or an edit: a rowid, or an entry.
use Rattle.std.specs.declared.cmp.Ordering.{Ordering}
use Rattle.sqlite_value.specs.declared.value.Value.TheVariants.{Int}
use Rattle.sqlite_value.specs.Order.{Row, value_cmp}
use Rattle.sqlite_value.specs.Keys.{entry_cmp}
use Rattle.sqlite_trees.specs.Tree.{rowid}
use Rattle.ordered_rows.specs.declared.target.Target.{Target}
use Rattle.ordered_rows.specs.declared.target.Target.TheVariants.{Rowid, Entry}

-- the order of a row and the target
abbrev pub side : Target → Row → Ordering
side (Rowid id) r = value_cmp (rowid r) (Int id)
side (Entry s) r = entry_cmp s.now.order r s.now.row.now
