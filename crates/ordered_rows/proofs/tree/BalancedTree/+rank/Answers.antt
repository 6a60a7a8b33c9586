use Rattle.std.proofs.Common.{◌≡◌, Less, Equal, Greater, rules}
use Rattle.ordered_rows.specs.Targets.{side}
use Rattle.ordered_rows.proofs.Cuts.{cut_lower, cut_upper}
use Rattle.ordered_rows.proofs.Forked.{forked, shorter}
use Rattle.ordered_rows.proofs.Numbers.{counted, told}
use Rattle.ordered_rows.proofs.Placed.{placed_here, placed_lower, placed_upper}
use Rattle.ordered_rows.proofs.tree.BalancedTree.+rank.Goals as goal

pub rank-at-requires : goal.rank-at-requires
rank-at-requires t c =
    let is = forked c.self.view_is c.in-Fork.is c.as_ref-fork.ensures in
    let less = shorter _ _ _ is in
    (search rules, cut_upper (side c.args.target) _ _ _ _ is c.requires)

pub rank-requires : goal.rank-requires
rank-requires t c =
    let is = forked c.self.view_is c.in-Fork.is c.as_ref-fork.ensures in
    let less = shorter _ _ _ is in
    (search rules, cut_lower (side c.args.target) _ _ _ _ is c.requires)

pub returns-in-Less-clause-is : goal.returns-in-Less-clause-is
returns-in-Less-clause-is t c = λ low.
    let is = forked c.self.view_is c.in-Fork.is c.as_ref-fork.ensures in
    let here : side c.args.target c.as_ref-fork.result.now.row ≡ Less = cc in
    let number = told _ _ _ c.number_right.ensures low in
    placed_upper (side c.args.target) _ _ _ _ is c.requires c.rank-at.result.0 _ c.rank-at.result.1 here number.0 (c.rank-at.ensures.is number.1)

pub returns-in-Equal-clause-is : goal.returns-in-Equal-clause-is
returns-in-Equal-clause-is t c = λ low.
    let is = forked c.self.view_is c.in-Fork.is c.as_ref-fork.ensures in
    let here : side c.args.target c.as_ref-fork.result.now.row ≡ Equal = cc in
    placed_here (side c.args.target) _ _ _ _ is c.requires _ here (counted _ _ c.count.ensures low)

pub returns-in-Greater-clause-is : goal.returns-in-Greater-clause-is
returns-in-Greater-clause-is t c = λ low.
    let is = forked c.self.view_is c.in-Fork.is c.as_ref-fork.ensures in
    let here : side c.args.target c.as_ref-fork.result.now.row ≡ Greater = cc in
    placed_lower (side c.args.target) _ _ _ _ is c.requires _ c.rank.result.1 here (c.rank.ensures.is low)
