use Rattle.std.proofs.Common.{ap, rules, set, sym, to_z-of_z, true, SFits, w64, ◌∙◌}
use Rattle.std.proofs.lemmas.Result.{IfOk-weaker}
use Rattle.sqlite_value.specs.Value.{owned}
use Rattle.ordered_rows.specs.Edits.{inserted}
use Rattle.ordered_rows.proofs.Orders.{row_put, table_cut}
use Rattle.ordered_rows.proofs.Placed.{new_inserted, new_replaces}
use Rattle.ordered_rows.proofs.rows.OrderedRows.put.Goals as goal

pub placed-requires : goal.placed-requires
placed-requires c = table_cut _ _ c.requires.table.0

pub returns-then-found-clause-ok : goal.returns-then-found-clause-ok
returns-then-found-clause-ok c =
    let fits : SFits w64 c.in-Int.id = search rules in
    let placed = rw c.if-found.true at c.in_ok-at.ensures.ok.1 in
    let row = ap (λ new. set c.args.self.now c.in_ok-at.at new) c.in_ok-new.ensures in
    (c.replace.ensures.0 ∙ row ∙ row_put c.args.self.now c.args.row.now _ (rw to_z-of_z (sym (ap owned c.in-Int.is) ∙ c.get.ensures)) (new_replaces _ _ _ c.args.row.now placed), c.replace.ensures.1)

pub returns-else-found-clause-ok : goal.returns-else-found-clause-ok
returns-else-found-clause-ok c =
    let fits : SFits w64 c.in-Int.id = search rules in
    let placed = rw c.if-found.false at c.in_ok-at.ensures.ok.1 in
    let row = ap (λ new. inserted c.in_ok-at.at new c.args.self.now) c.in_ok-new.ensures in
    let made = row_put c.args.self.now c.args.row.now _ (rw to_z-of_z (sym (ap owned c.in-Int.is) ∙ c.get.ensures)) (new_inserted _ _ _ true c.args.row.now placed) in
    IfOk-weaker c.add.result _ _ (λ undo added. (added.0 ∙ row ∙ made, added.1)) c.add.ensures.ok
