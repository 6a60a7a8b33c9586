use Rattle.std.proofs.Common.{◌≡◌, length}
use Rattle.ordered_rows.proofs.Ends.{from_behind}
use Rattle.ordered_rows.proofs.Numbers.{counted}
use Rattle.ordered_rows.proofs.rows.OrderedRows.rank_from.Goals as goal

pub returns-then-ends_before-clause-is : goal.returns-then-ends_before-clause-is
returns-then-ends_before-clause-is c = λ low.
    let long : length c.args.self.now ≡ c.count.result = rw c.self.view_is at (counted _ _ c.count.ensures low) in
    from_behind c.args.probe.now.order c.args.probe.now.row.now c.args.self.now c.count.result c.requires (c.ends_before.ensures c.if-ends_before.true) long
