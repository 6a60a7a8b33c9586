use Rattle.std.proofs.Common.{◌<◌, refl, rules}
use Rattle.ordered_rows.proofs.Forked.{forked}
use Rattle.ordered_rows.proofs.Numbers.{inserted_right, past}
use Rattle.ordered_rows.proofs.tree.BalancedTree.+inserted.Goals as goal

pub returns-else-at-left : goal.returns-else-at-left
returns-else-at-left t c =
    let is = forked c.self.view_is c.in-Fork.is refl in
    let over : c.count-left.result < c.args.at = search rules in
    let number = past _ _ c.args.at (rw (c.deref.ensures, c.in-Fork.fork-is) at c.count-left.ensures) over c.requires in
    let made = inserted_right _ _ _ _ is c.args.at _ c.args.new.value.row number.0 in
    search rules
