use Rattle.std.proofs.Common.{ap, ◌∙◌}
use Rattle.std.proofs.lemmas.Int.{to_z-of_z}
use Rattle.ordered_rows.specs.Undos.{edited}
use Rattle.ordered_rows.proofs.Orders.{rowid_removed, table_cut}
use Rattle.ordered_rows.proofs.Placed.{none_removed, one_removed}
use Rattle.ordered_rows.proofs.rows.OrderedRows.delete.Goals as goal

pub placed-requires : goal.placed-requires
placed-requires c = table_cut _ _ c.requires.0

pub returns-then-found-clause-ok : goal.returns-then-found-clause-ok
returns-then-found-clause-ok c =
    let placed = rw c.if-found.true at c.in_ok-at.ensures.ok.1 in
    (rowid_removed c.args.self.now c.args.id _ (to_z-of_z _ c.args.id c.ranges.id) (c.take_out.ensures.0 ∙ one_removed _ _ _ placed), c.take_out.ensures.1)

pub returns-else-found-clause-ok : goal.returns-else-found-clause-ok
returns-else-found-clause-ok c =
    let placed = rw c.if-found.false at c.in_ok-at.ensures.ok.1 in
    (rowid_removed c.args.self.now c.args.id _ (to_z-of_z _ c.args.id c.ranges.id) (none_removed _ _ _ placed), ap (λ inverse. edited inverse c.args.self.now) c.nothing.ensures)
