use Rattle.std.proofs.Common.{◌≡◌, ◌<◌, rules, sym, ◌∙◌}
use Rattle.ordered_rows.proofs.Forked.{forked}
use Rattle.ordered_rows.proofs.Numbers.{beyond, counted, nth_here, nth_right, option_weaker, past}
use Rattle.ordered_rows.proofs.tree.BalancedTree.+nth.Goals as goal

pub returns-in-Equal : goal.returns-in-Equal
returns-in-Equal t c =
    let is = forked c.self.view_is c.in-Fork.is c.as_ref-fork.ensures in
    let same : c.args.at ≡ c.count-left.result = search rules in
    nth_here _ _ _ _ is c.args.at (counted _ _ c.count-left.ensures (rw same at c.requires) ∙ sym same)

pub returns-in-Greater : goal.returns-in-Greater
returns-in-Greater t c =
    let is = forked c.self.view_is c.in-Fork.is c.as_ref-fork.ensures in
    let over : c.count-left.result < c.args.at = search rules in
    let number = past _ _ c.args.at c.count-left.ensures over c.requires in
    option_weaker _ _ _ _ _ (beyond _ _ _ _ is c.args.at _ number.0) (λ row. nth_right _ _ _ _ is c.args.at _ row.now number.0) c.nth-in-Greater.ensures
