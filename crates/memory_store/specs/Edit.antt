-- A write to the rows of a tree.
use Rattle.std.specs.Prelude.{◌≡◌, IsTrue, List}
use Rattle.sqlite_value.specs.Order.{Row}
use Rattle.sqlite_trees.specs.declared.store.Shape.{Shape}
use Rattle.sqlite_trees.specs.declared.store.Shape.TheVariants.{Index, Table}
use Rattle.sqlite_trees.specs.Tree.{insert_entry, put_row, remove_entry, rowid, without_rowid}
use Rattle.sqlite_trees.specs.View.{is_int}
use Rattle.memory_store.specs.declared.edit.Edit.{Edit}
use Rattle.memory_store.specs.declared.edit.Edit.TheVariants.{Delete, Insert, Put, Remove}

-- the rows after the edit
abbrev pub edited : Edit → List Row → List Row
edited (Put row) = put_row row.now
edited (Delete id) = without_rowid id
edited (Insert order entry) = insert_entry order entry.now
edited (Remove order entry) = remove_entry order entry.now

-- the edit fits a tree of this shape
abbrev pub Fits : Edit → Shape → Type 0
Fits (Put row) shape = (shape ≡ Table) × IsTrue (is_int (rowid row.now))
Fits (Delete id) shape = shape ≡ Table
Fits (Insert order entry) shape = shape ≡ Index order
Fits (Remove order entry) shape = shape ≡ Index order
