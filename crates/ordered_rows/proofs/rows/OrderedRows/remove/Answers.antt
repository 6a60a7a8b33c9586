use Rattle.std.proofs.Common.{ap, subst, sym, ◌∙◌}
use Rattle.sqlite_trees.specs.Tree.{IsIndex}
use Rattle.ordered_rows.specs.Undos.{edited}
use Rattle.ordered_rows.proofs.Orders.{entry_removed, index_cut}
use Rattle.ordered_rows.proofs.Placed.{none_removed, one_removed}
use Rattle.ordered_rows.proofs.rows.OrderedRows.remove.Goals as goal

pub placed-requires : goal.placed-requires
placed-requires c = index_cut _ c.new-probe.result.row.now _ (subst (λ o. IsIndex o c.args.self.now) (sym c.new-probe.ensures.order) c.requires)

pub returns-then-found-clause-ok : goal.returns-then-found-clause-ok
returns-then-found-clause-ok c =
    let placed = rw c.if-found.true at c.in_ok-at.ensures.ok.1 in
    let s = c.new-probe in
    (entry_removed c.args.self.now c.args.order s.result.order c.args.entry.now s.result.row.now s.ensures.order s.ensures.row (c.take_out.ensures.0 ∙ one_removed _ _ _ placed), c.take_out.ensures.1)

pub returns-else-found-clause-ok : goal.returns-else-found-clause-ok
returns-else-found-clause-ok c =
    let placed = rw c.if-found.false at c.in_ok-at.ensures.ok.1 in
    let s = c.new-probe in
    (entry_removed c.args.self.now c.args.order s.result.order c.args.entry.now s.result.row.now s.ensures.order s.ensures.row (none_removed _ _ _ placed), ap (λ inverse. edited inverse c.args.self.now) c.nothing.ensures)
