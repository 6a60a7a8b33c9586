use Rattle.std.proofs.Common.{◌≡◌, length}
use Rattle.ordered_rows.specs.Targets.{side}
use Rattle.ordered_rows.proofs.Ends.{placed_behind}
use Rattle.ordered_rows.proofs.Numbers.{counted}
use Rattle.ordered_rows.proofs.rows.OrderedRows.rank.Goals as goal

pub returns-then-ends_below-clause-is : goal.returns-then-ends_below-clause-is
returns-then-ends_below-clause-is c = λ low.
    let long : length c.args.self.now ≡ c.count.result = rw c.self.view_is at (counted _ _ c.count.ensures low) in
    placed_behind (side c.args.target) c.args.self.now c.count.result c.requires (c.ends_below.ensures c.if-ends_below.true) long
