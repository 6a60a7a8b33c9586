use Rattle.std.proofs.Common.{ap, false, subst, sym, ◌∙◌}
use Rattle.std.proofs.lemmas.Result.{IfOk-weaker}
use Rattle.sqlite_trees.specs.Tree.{IsIndex}
use Rattle.ordered_rows.specs.Edits.{inserted}
use Rattle.ordered_rows.specs.Undos.{edited}
use Rattle.ordered_rows.proofs.Orders.{entry_inserted, index_cut}
use Rattle.ordered_rows.proofs.Placed.{new_inserted, old_stays}
use Rattle.ordered_rows.proofs.rows.OrderedRows.insert.Goals as goal

pub placed-requires : goal.placed-requires
placed-requires c = index_cut _ c.new-probe.result.row.now _ (subst (λ o. IsIndex o c.args.self.now) (sym c.new-probe.ensures.order) c.requires)

pub returns-then-found-clause-ok : goal.returns-then-found-clause-ok
returns-then-found-clause-ok c =
    let placed = rw c.if-found.true at c.in_ok-at.ensures.ok.1 in
    let s = c.new-probe in
    (entry_inserted c.args.self.now c.args.order s.result.order c.args.entry.now s.result.row.now s.ensures.order s.ensures.row (old_stays _ _ _ c.args.entry.now placed), ap (λ inverse. edited inverse c.args.self.now) c.nothing.ensures)

pub returns-in_ok-new-clause-ok : goal.returns-in_ok-new-clause-ok
returns-in_ok-new-clause-ok c =
    let placed = rw c.if-found.false at c.in_ok-at.ensures.ok.1 in
    let s = c.new-probe in
    let entry = ap (λ new. inserted c.in_ok-at.at new c.args.self.now) c.in_ok-new.ensures in
    let made = entry_inserted c.args.self.now c.args.order s.result.order c.args.entry.now s.result.row.now s.ensures.order s.ensures.row (new_inserted _ _ _ false c.args.entry.now placed) in
    IfOk-weaker c.add.result _ _ (λ undo added. (added.0 ∙ entry ∙ made, added.1)) c.add.ensures.ok
