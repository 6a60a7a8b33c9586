use Rattle.std.proofs.Common.{[], w64}
use Rattle.std.proofs.lemmas.Int.{to_z-of_z}
use Rattle.ordered_rows.specs.Targets.{side}
use Rattle.ordered_rows.specs.declared.target.Target.TheVariants.{Rowid}
use Rattle.ordered_rows.proofs.Ends.{none_behind}
use Rattle.ordered_rows.proofs.Orders.{table_cut}
use Rattle.ordered_rows.proofs.rows.OrderedRows.get.Goals as goal

pub find-requires : goal.find-requires
find-requires c = rw c.self.view_is (table_cut _ _ c.requires.0)

pub returns-then-ends_below : goal.returns-then-ends_below
returns-then-ends_below c = rw (to_z-of_z w64 c.args.id c.ranges.id) at (none_behind (side (Rowid _)) c.args.self.now [] (table_cut _ _ c.requires.0) (c.ends_below.ensures c.if-ends_below.true))
