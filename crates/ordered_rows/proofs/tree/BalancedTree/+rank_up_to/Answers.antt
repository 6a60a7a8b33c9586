use Rattle.std.proofs.Common.{◌≡◌, true, false, is_gt, rules}
use Rattle.sqlite_value.specs.Keys.{prefix_cmp}
use Rattle.ordered_rows.proofs.Forked.{forked, shorter}
use Rattle.ordered_rows.proofs.Numbers.{told}
use Rattle.ordered_rows.proofs.Walks.{up_to_left, up_to_right, seekable_lower, seekable_upper}
use Rattle.ordered_rows.proofs.tree.BalancedTree.+rank_up_to.Goals as goal

pub rank_up_to-requires : goal.rank_up_to-requires
rank_up_to-requires t c =
    let is = forked c.self.view_is c.in-Fork.is c.as_ref-fork.ensures in
    let less = shorter _ _ _ is in
    (search rules, seekable_lower _ _ _ _ is c.args.probe.now.order c.args.probe.now.row.now c.requires)

pub rank_up_to-at-requires : goal.rank_up_to-at-requires
rank_up_to-at-requires t c =
    let is = forked c.self.view_is c.in-Fork.is c.as_ref-fork.ensures in
    let less = shorter _ _ _ is in
    (search rules, seekable_upper _ _ _ _ is c.args.probe.now.order c.args.probe.now.row.now c.requires)

pub returns-then-is_gt-clause-is : goal.returns-then-is_gt-clause-is
returns-then-is_gt-clause-is t c = λ low.
    let is = forked c.self.view_is c.in-Fork.is c.as_ref-fork.ensures in
    let here : is_gt (prefix_cmp c.args.probe.now.order c.as_ref-fork.result.now.row c.args.probe.now.row.now) ≡ true = cc in
    up_to_left _ _ _ _ is c.args.probe.now.order c.args.probe.now.row.now c.requires _ here c.rank_up_to.ensures.within (c.rank_up_to.ensures.is low)

pub returns-else-is_gt-clause-is : goal.returns-else-is_gt-clause-is
returns-else-is_gt-clause-is t c = λ low.
    let is = forked c.self.view_is c.in-Fork.is c.as_ref-fork.ensures in
    let here : is_gt (prefix_cmp c.args.probe.now.order c.as_ref-fork.result.now.row c.args.probe.now.row.now) ≡ false = cc in
    let number = told _ _ _ c.number_right.ensures low in
    up_to_right _ _ _ _ is c.args.probe.now.order c.args.probe.now.row.now c.requires _ _ here number.0 (c.rank_up_to-at.ensures.is number.1)
